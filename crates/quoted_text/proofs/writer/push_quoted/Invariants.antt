use Rattle.std.proofs.Common.{◌≡◌, ◌++◌, ◌∷◌, take}
use Rattle.std.specs.List.{flat_map}
use Rattle.quoted_text.specs.Spellings.{byte_text}
use Rattle.quoted_text.proofs.writer.push_quoted.Given as goal

abbrev pub invariant-loop-byte : goal.invariant-loop-byte
invariant-loop-byte l = l.bytes.items ≡ l.fn.bytes.items ++ l.quote ∷ flat_map (byte_text l.quote) (take l.byte-index l.text)
