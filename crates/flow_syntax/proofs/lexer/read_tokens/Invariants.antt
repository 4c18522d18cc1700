use Rattle.std.proofs.Common.{◌-◌, ◌≤◌, List, ℕ, ◌++◌, length, drop, IsUtf8}
use Rattle.flow_syntax.specs.declared.token.Token.{Token}
use Rattle.flow_syntax.specs.declared.lexer.refusal.LexFaultKind.{LexFaultKind}
use Rattle.flow_syntax.specs.Tokens.{TokensFrom}
use Rattle.flow_syntax.specs.TokenFaults.{FaultFrom}
use Rattle.flow_syntax.proofs.lexer.read_tokens.Given as goal

abbrev pub invariant-loop-at : goal.invariant-loop-at
invariant-loop-at l = record {
  within : l.at ≤ length l.bytes;
  utf8 : IsUtf8 (drop l.at l.bytes);
  found : (more : List Token) → TokensFrom l.at (drop l.at l.bytes) more → TokensFrom 0 l.bytes (l.tokens ++ more);
  fault : (offset : ℕ) (kind : LexFaultKind) → FaultFrom l.at (drop l.at l.bytes) offset kind → FaultFrom 0 l.bytes offset kind;
}

abbrev pub decreases-loop-at : goal.decreases-loop-at
decreases-loop-at l = length l.bytes - l.at
