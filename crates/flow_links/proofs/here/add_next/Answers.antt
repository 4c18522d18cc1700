use Rattle.std.proofs.Common.{ap}
use Rattle.flow_term.specs.declared.graph.Point.TheVariants.{In, Out}
use Rattle.flow_links.proofs.BelowLemmas.{Adds-ends}
use Rattle.flow_term.proofs.Outcomes.{on_ok}
use Rattle.flow_links.proofs.here.add_next.Goals as goal

pub returns : goal.returns
returns c = on_ok c.insert.result c.insert.ensures (Adds-ends (ap Out c.in_ok-child_path.ensures) (ap In c.in_ok-child_path-2.ensures))
