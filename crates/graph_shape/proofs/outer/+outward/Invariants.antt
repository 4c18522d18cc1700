use Rattle.std.proofs.Common.{take, ◌+◌, ◌*◌}
use Rattle.graph_shape.proofs.PartSizes.{part_count}
use Rattle.flow_links.specs.inner.Gains.{Gains}
use Rattle.path_tree.specs.Shapes.{children_of}
use Rattle.graph_shape.specs.Outer.{ArePassedBefore, IsOpened, IsOuterOfItems}
use Rattle.graph_shape.proofs.outer.+outward.Given as goal

abbrev pub invariant-add_items-loop-turn : goal.invariant-add_items-loop-turn
invariant-add_items-loop-turn l = record {
  gains : Gains l.fn.out l.out (IsOuterOfItems l.plans l.side (children_of l.shape) l.path l.turn);
  passed : ArePassedBefore l.side (children_of l.shape) l.turn;
}

abbrev pub invariant-add_opened-loop-stop : goal.invariant-add_opened-loop-stop
invariant-add_opened-loop-stop l = Gains l.fn.out l.out (IsOpened l.plans l.side (children_of l.shape) l.path (take l.stop-index l.stops))

abbrev pub decreases-add_outer : goal.decreases-add_outer
decreases-add_outer l = 4 * part_count l.shape.now + 3

abbrev pub decreases-add_items : goal.decreases-add_items
decreases-add_items l = 4 * part_count l.shape.now + 2

abbrev pub decreases-add_opened : goal.decreases-add_opened
decreases-add_opened l = 4 * part_count l.shape.now + 2

abbrev pub decreases-add_at : goal.decreases-add_at
decreases-add_at l = 4 * part_count l.shape.now + 1

abbrev pub decreases-add_child : goal.decreases-add_child
decreases-add_child l = 4 * part_count l.shape.now + 0
