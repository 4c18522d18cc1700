use Rattle.flow_links.specs.inner.Gains.{Gains}
use Rattle.path_tree.specs.Shapes.{children_of}
use Rattle.graph_edges.specs.inner.Taken.{LeavesOneItem}
use Rattle.graph_edges.proofs.owned.add_between.Given as goal

abbrev pub invariant-loop-at : goal.invariant-loop-at
invariant-loop-at l = Gains l.fn.out l.out (LeavesOneItem l.plans (children_of l.shape) l.path l.at)
