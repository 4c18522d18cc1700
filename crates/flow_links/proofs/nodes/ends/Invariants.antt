use Rattle.std.proofs.Common.{[], take}
use Rattle.flow_links.specs.inner.Ends.{IsEnd}
use Rattle.flow_links.specs.inner.Gains.{Gains}
use Rattle.flow_links.proofs.nodes.ends.Given as goal

abbrev pub invariant-loop-link : goal.invariant-loop-link
invariant-loop-link l = Gains [] l.nodes.keys (IsEnd (take l.link-index l.links))
