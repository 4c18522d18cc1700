use Rattle.std.proofs.Common.{◌≡◌, ◌+◌, ◌*◌, take}
use Rattle.std.specs.Prelude.{sum_by}
use Rattle.flow_term.specs.Trees.{children, position_count, term_size}
use Rattle.graph_shape.specs.Shapes.{AreShapesOf, HaveMatches}
use Rattle.graph_shape.proofs.building.+build.Given as goal

abbrev pub decreases-build : goal.decreases-build
decreases-build g l = 2 * term_size l.term.now + 1

abbrev pub decreases-build_children : goal.decreases-build_children
decreases-build_children g l = 2 * term_size l.term.now

abbrev pub invariant-build_children-loop-child : goal.invariant-build_children-loop-child
invariant-build_children-loop-child g l = record {
  counted : l.n ≡ l.child-index;
  shapes : AreShapesOf (g.R.RuleSource.spec l.rules) (take l.child-index (children l.term)) l.shapes;
  matches : HaveMatches (g.R.RuleSource.spec l.rules) (take l.child-index (children l.term)) l.path l.shapes;
  steps : l.steps ≡ l.fn.steps + sum_by position_count (take l.child-index (children l.term));
}
