use Rattle.std.proofs.Common.{◌≡◌, ℕ, ◌+◌, List, [], ◌∷◌, ◌++◌, get_or, take, sym, subst}
use Rattle.std.proofs.lemmas.List.{take_more}
use Rattle.flow_links.specs.inner.Gains.{Gains}
use Rattle.flow_links.specs.inner.Numbers.{IsEdgeTo}
use Rattle.flow_links.proofs.EdgeLemmas.{edges_to_more, no_edges_to}
use Rattle.flow_links.proofs.SetLemmas.{Gains-none, Gains-same, Gains-then}
use Rattle.flow_links.proofs.edges.add_edges_to.Goals as goal

pub loop-number-init : goal.loop-number-init
loop-number-init c = Gains-none c.args.edges.now.keys (no_edges_to c.args.graph.now.points.keys c.args.source.now)

pub loop-number-preserved : goal.loop-number-preserved
loop-number-preserved c =
    let n : ℕ = get_or c.args.numbers.now c.loop-number.number-index 0 in
    let longer : take (c.loop-number.number-index + 1) c.args.numbers.now ≡ take c.loop-number.number-index c.args.numbers.now ++ n ∷ [] =
    take_more c.args.numbers.now c.loop-number.number-index 0 c.loop-number-test.true in
    subst (λ (xs : List ℕ). Gains c.args.edges.now.keys c.add_edge.new.edges.keys (IsEdgeTo c.args.graph.now.points.keys c.args.source.now xs)) (sym longer)
    (Gains-same (Gains-then c.loop-number.invariant c.in_ok-add_edge.ensures) (edges_to_more c.args.graph.now.points.keys c.args.source.now (take c.loop-number.number-index c.args.numbers.now) n))
