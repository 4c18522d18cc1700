use Rattle.std.proofs.Common.{◌-◌, length}
use Rattle.flow_links.specs.inner.Reach.{IsArrow, IsInnerAt}
use Rattle.flow_links.proofs.Searches.{IsSearch}
use Rattle.flow_links.proofs.reach.reached.Given as goal

abbrev pub invariant-loop-next : goal.invariant-loop-next
invariant-loop-next l = IsSearch (IsInnerAt l.graph.points.keys) (IsArrow l.graph.successors.items) l.from l.found.keys l.next

abbrev pub decreases-loop-next : goal.decreases-loop-next
decreases-loop-next l = length l.graph.points.keys - l.next
