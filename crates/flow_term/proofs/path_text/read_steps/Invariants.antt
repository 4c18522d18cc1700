use Rattle.std.proofs.Common.{◌≡◌, ℕ, ◌++◌, List, length}
use Rattle.std.specs.List.{flat_map}
use Rattle.flow_term.specs.Paths.{AreSteps, step_text}
use Rattle.flow_term.proofs.StepTexts.{Leaves}
use Rattle.flow_term.proofs.path_text.read_steps.Given as goal

abbrev pub decreases-loop-rest : goal.decreases-loop-rest
decreases-loop-rest l = length l.rest

-- the steps so far are the front of the bytes, and begin every path that has them as its text
abbrev pub invariant-loop-rest : goal.invariant-loop-rest
invariant-loop-rest l = record {
  front : flat_map step_text l.steps.items ++ l.rest ≡ l.fn.bytes;
  begins : (path : List ℕ) → AreSteps path → flat_map step_text path ≡ l.fn.bytes → Leaves l.steps.items l.rest path;
}
