use Rattle.flow_links.proofs.Once.{Adds-insert}
use Rattle.flow_links.proofs.link_set.LinkSet.insert.Goals as goal

pub returns : goal.returns
returns c = rw (c.in_ok-insert.ensures.keys, ← c.self.view_is) (Adds-insert c.self.inside.links.keys c.args.link)
