use Rattle.flow_term.specs.Orders.{edge_cmp}
use Rattle.cert_text.proofs.Moving.{tested}
use Rattle.cert_text.proofs.reader.edge_is_above.Goals as goal

pub returns-in-Some : goal.returns-in-Some
returns-in-Some c = tested edge_cmp c.args.edges.now c.args.edge.now c.in-Some.last.now c.edge_is_below.result c.in-Some.ensures.value c.edge_is_below.ensures
