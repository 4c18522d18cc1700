use Rattle.std.proofs.Common.{◌≡◌, ◌-◌, ◌≤◌, List, ℕ, ◌∷◌, length, take}
use Rattle.quoted_text.specs.Quotes.{IsInside}
use Rattle.flow_syntax.proofs.lexer.quoted.read_quoted.Given as goal

abbrev pub invariant-loop-byte : goal.invariant-loop-byte
invariant-loop-byte l = record {
  within : l.at ≤ length l.bytes;
  begun : 1 ≤ l.at;
  spelled : (inside : List ℕ) × (take l.at l.bytes ≡ 34 ∷ inside) × IsInside inside l.value;
}

abbrev pub decreases-loop-byte : goal.decreases-loop-byte
decreases-loop-byte l = length l.bytes - l.at
