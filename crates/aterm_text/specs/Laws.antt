-- Each text has one answer.
use Rattle.std.specs.Prelude.{◌≡◌, ℕ, List}
use Rattle.flow_term.specs.declared.term.Term.{Term}
use Rattle.aterm_text.specs.declared.refusal.TermFaultKind.{TermFaultKind}
use Rattle.aterm_text.specs.Faults.{TermFaulty}
use Rattle.aterm_text.specs.Grammar.{TermText}

-- The bytes are a text of one term at most, have one first fault at most, and never both.
pub record HasOneAnswer (bytes : List ℕ) : Type 0 where
  pub one_term : (t u : Term) → TermText bytes t → TermText bytes u → t ≡ u
  pub one_fault : (offset place : ℕ) (kind row : TermFaultKind) → TermFaulty bytes offset kind → TermFaulty bytes place row → (offset ≡ place) × (kind ≡ row)
  pub not_both : (t : Term) (offset : ℕ) (kind : TermFaultKind) → TermText bytes t → ¬ TermFaulty bytes offset kind
