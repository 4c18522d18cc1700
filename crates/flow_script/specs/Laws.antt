-- Each text has one answer.
use Rattle.std.specs.Prelude.{◌≡◌, ℕ, List}
use Rattle.flow_script.specs.declared.command.Line.{Line}
use Rattle.flow_script.specs.declared.refusal.ScriptFaultKind.{ScriptFaultKind}
use Rattle.flow_script.specs.Scripts.{ScriptFaulty, ScriptText}

-- The bytes are a text of one script at most, have one first fault at most, and never both.
pub record HasOneAnswer (bytes : List ℕ) : Type 0 where
  pub one_script : (script other : List Line) → ScriptText bytes script → ScriptText bytes other → script ≡ other
  pub one_fault : (number place : ℕ) (kind other : ScriptFaultKind) → ScriptFaulty bytes number kind → ScriptFaulty bytes place other → (number ≡ place) × (kind ≡ other)
  pub not_both : (script : List Line) (number : ℕ) (kind : ScriptFaultKind) → ScriptText bytes script → ¬ ScriptFaulty bytes number kind
