use Rattle.std.proofs.Common.{◌≡◌}
use Rattle.flow_syntax.specs.Graph.{IsInner, point_of}
use Rattle.flow_links.proofs.EdgeLemmas.{edge_at, no_edge_at}
use Rattle.flow_term.proofs.Outcomes.{on_ok}
use Rattle.flow_links.proofs.SetLemmas.{Gains-none, Gains-same}
use Rattle.flow_links.proofs.edges.add_edge.Goals as goal

pub returns-in_ok-from-in-Some : goal.returns-in_ok-from-in-Some
returns-in_ok-from-in-Some c =
    let is : c.point.result.now ≡ point_of c.in-Some.to = rw c.in-Some.is at c.in_ok-node_at.ensures in
    on_ok c.add.result c.add.ensures (λ h. Gains-same h (edge_at c.args.graph.now.points.keys c.args.number c.point.result.now c.args.source.now c.in_ok-from-in-Some.from c.in-Some.to
    c.point.ensures is c.in_ok-from-in-Some.ensures))

pub returns-in-None : goal.returns-in-None
returns-in-None c =
    let inner : IsInner c.point.result.now = rw c.in-None.is at c.in_ok-node_at.ensures in
    Gains-none c.args.edges.now.keys (no_edge_at c.args.graph.now.points.keys c.args.number c.point.result.now c.args.source.now c.point.ensures inner)
