use Rattle.std.proofs.Common.{take}
use Rattle.flow_links.specs.inner.Numbers.{IsGraphOf}
use Rattle.flow_links.proofs.numbers.number_points.Given as goal

abbrev pub invariant-loop-link : goal.invariant-loop-link
invariant-loop-link l = IsGraphOf (take l.link-index l.links) l.points.keys l.successors.items
