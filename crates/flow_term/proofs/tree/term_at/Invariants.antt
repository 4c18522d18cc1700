use Rattle.std.proofs.Common.{◌≡◌, drop}
use Rattle.flow_term.specs.Trees.{At}
use Rattle.flow_term.proofs.tree.term_at.Given as goal

-- what is left of the path leads from here where the whole path leads from the root
abbrev pub invariant-loop-step : goal.invariant-loop-step
invariant-loop-step l = At l.at (drop l.step-index l.step-items) ≡ At l.fn.tree l.fn.path
