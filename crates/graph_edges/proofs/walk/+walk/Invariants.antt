use Rattle.std.proofs.Common.{◌+◌, ◌*◌}
use Rattle.flow_links.specs.inner.Gains.{Gains}
use Rattle.graph_shape.proofs.PartSizes.{part_count}
use Rattle.graph_edges.specs.inner.Taken.{IsEdgeInChildren}
use Rattle.graph_edges.proofs.walk.+walk.Given as goal

abbrev pub invariant-add_children-loop-at : goal.invariant-add_children-loop-at
invariant-add_children-loop-at l = Gains l.fn.out l.out (IsEdgeInChildren l.plans l.entered l.shape l.path l.at)

abbrev pub decreases-add_below : goal.decreases-add_below
decreases-add_below l = 3 * part_count l.shape.now + 2

abbrev pub decreases-add_children : goal.decreases-add_children
decreases-add_children l = 3 * part_count l.shape.now + 1

abbrev pub decreases-add_child : goal.decreases-add_child
decreases-add_child l = 3 * part_count l.shape.now + 0
