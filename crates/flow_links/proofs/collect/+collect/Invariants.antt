use Rattle.std.proofs.Common.{◌≡◌, ◌+◌, ◌*◌}
use Rattle.flow_term.specs.Trees.{term_size}
use Rattle.flow_links.specs.Below.{Adds, LinksInChildren}
use Rattle.flow_links.proofs.collect.+collect.Given as goal

abbrev pub decreases-add_below : goal.decreases-add_below
decreases-add_below l = 3 * term_size l.term.now + 1

abbrev pub decreases-add_children : goal.decreases-add_children
decreases-add_children l = 3 * term_size l.term.now

abbrev pub decreases-add_child : goal.decreases-add_child
decreases-add_child l = 3 * term_size l.child.now + 2

abbrev pub invariant-add_children-loop-child : goal.invariant-add_children-loop-child
invariant-add_children-loop-child l = record {
  counted : l.n ≡ l.child-index;
  same : l.path.items ≡ l.fn.path.items;
  added : Adds l.fn.out l.out (LinksInChildren l.rules.spec.now.spec l.marks l.term l.fn.path.items l.child-index);
}
