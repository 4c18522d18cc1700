use Rattle.std.proofs.Common.{take}
use Rattle.flow_links.specs.inner.Gains.{Gains}
use Rattle.path_tree.specs.Shapes.{children_of}
use Rattle.graph_edges.specs.inner.Taken.{LeavesOneStep}
use Rattle.graph_edges.proofs.owned.add_by_steps.Given as goal

abbrev pub invariant-loop-step : goal.invariant-loop-step
invariant-loop-step l = Gains l.fn.out l.out (LeavesOneStep l.plans l.steps l.bits (children_of l.shape) l.path (take l.step-index l.steps))
