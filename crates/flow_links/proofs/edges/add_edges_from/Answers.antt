use Rattle.std.proofs.Common.{◌≡◌, ℕ, List, get_or, subst}
use Rattle.std.specs.Prelude.{Contains}
use Rattle.std.proofs.lemmas.List.Elements.{Contains-get_or}
use Rattle.flow_syntax.specs.Graph.{IsInner, point_of}
use Rattle.flow_links.proofs.EdgeLemmas.{edges_from, no_edges_from}
use Rattle.flow_term.proofs.Outcomes.{on_ok}
use Rattle.flow_links.proofs.ReachLemmas.{found_within}
use Rattle.flow_links.proofs.SetLemmas.{Gains-all, Gains-none, Gains-same}
use Rattle.flow_links.proofs.edges.add_edges_from.Goals as goal

pub returns-in-None : goal.returns-in-None
returns-in-None c =
    let inner : IsInner c.point.result.now = rw c.in-None.is at c.in_ok-node_at.ensures in
    Gains-none c.args.edges.now.keys (no_edges_from c.args.graph.now.points.keys c.args.graph.now.successors.items c.args.from c.point.result.now c.point.ensures inner)

pub add_edges_to-requires : goal.add_edges_to-requires
add_edges_to-requires c = λ i d h.
    let n : ℕ = get_or c.as_slice.result.now i d in
    found_within c.args.graph.now.points.keys c.args.graph.now.successors.items c.args.from c.requires.within n
    ((Gains-all c.in_ok-found-in-Some.ensures n).0 (subst (λ (ks : List ℕ). Contains ks n) c.as_slice.ensures.keys (Contains-get_or c.as_slice.result.now i d h)))

pub returns-in_ok-found-in-Some : goal.returns-in_ok-found-in-Some
returns-in_ok-found-in-Some c =
    let is : c.point.result.now ≡ point_of c.in-Some.source = rw c.in-Some.is at c.in_ok-node_at.ensures in
    on_ok c.add_edges_to.result c.add_edges_to.ensures (λ h. Gains-same h
    (edges_from c.args.graph.now.points.keys c.args.graph.now.successors.items c.args.from c.point.result.now c.in-Some.source c.in_ok-found-in-Some.found.keys c.as_slice.result.now c.as_slice.ensures.keys
    c.in_ok-found-in-Some.ensures c.point.ensures is))
