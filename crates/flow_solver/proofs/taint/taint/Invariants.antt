use Rattle.std.proofs.Common.{length, ◌-◌}
use Rattle.flow_solver.proofs.TaintLemmas.{IsWalk}
use Rattle.flow_solver.proofs.taint.taint.Given as goal

-- what is tainted so far, of which the first `done` have been followed
abbrev pub invariant-loop-done : goal.invariant-loop-done
invariant-loop-done g l = IsWalk (g.S.System.meaning l.progress.system) (g.S.System.next l.progress.system l.edit) (g.S.System.change l.edit) l.progress.steps l.tainted l.done

abbrev pub decreases-loop-done : goal.decreases-loop-done
decreases-loop-done g l = length (g.S.System.meaning l.progress.system).unknowns - l.done
