use Rattle.std.proofs.Common.{◌≡◌, ◌++◌, map, take}
use Rattle.std.specs.Prelude.{codes}
use Rattle.value_text.specs.Texts.{entry_text, listed}
use Rattle.value_text.proofs.writer.+write.Given as goal

abbrev pub invariant-push_entries-loop-at : goal.invariant-push_entries-loop-at
invariant-push_entries-loop-at l = l.bytes.items ≡ (l.fn.bytes.items ++ codes "[") ++ listed (map entry_text (take l.at l.entries))
