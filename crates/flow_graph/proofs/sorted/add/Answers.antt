use Rattle.flow_links.proofs.SetLemmas.{set_gains}
use Rattle.flow_graph.proofs.sorted.add.Goals as goal

pub returns : goal.returns
returns g c = set_gains g.met.T.Ord.total g.met.T.Element.exact c.args.set.now c.insert.new.self c.args.item c.in_ok-insert.ensures.updates
