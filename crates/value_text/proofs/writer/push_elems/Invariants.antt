use Rattle.std.proofs.Common.{◌≡◌, ◌++◌, map, take}
use Rattle.std.specs.Prelude.{codes}
use Rattle.value_text.specs.Texts.{elem_text, listed}
use Rattle.value_text.proofs.writer.push_elems.Given as goal

abbrev pub invariant-loop-at : goal.invariant-loop-at
invariant-loop-at l = l.bytes.items ≡ (l.fn.bytes.items ++ codes "{") ++ listed (map elem_text (take l.at l.elems))
