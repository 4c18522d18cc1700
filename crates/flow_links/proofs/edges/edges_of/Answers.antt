use Rattle.std.proofs.Common.{◌≡◌, ℕ, List, [], length, sym, subst, arith}
use Rattle.flow_term.specs.declared.graph.Edge.{Edge}
use Rattle.flow_links.specs.inner.Gains.{Gains}
use Rattle.flow_links.specs.inner.Numbers.{IsEdgeBelow}
use Rattle.flow_links.proofs.EdgeLemmas.{edges_below_more, no_edges_below}
use Rattle.flow_links.proofs.SetLemmas.{Gains-none, Gains-same, Gains-then}
use Rattle.flow_links.proofs.edges.edges_of.Goals as goal

pub loop-number-init : goal.loop-number-init
loop-number-init c = subst (λ (es : List Edge). Gains [] es (IsEdgeBelow c.args.graph.now.points.keys c.args.graph.now.successors.items 0)) (sym c.new-edges.ensures.empty)
    (Gains-none [] (no_edges_below c.args.graph.now.points.keys c.args.graph.now.successors.items))

pub loop-number-preserved : goal.loop-number-preserved
loop-number-preserved c =
    Gains-same (Gains-then c.loop-number.invariant c.in_ok-add_edges_from.ensures) (edges_below_more c.args.graph.now.points.keys c.args.graph.now.successors.items c.loop-number.number)

pub returns : goal.returns
returns c =
    let all : c.loop-number.number ≡ length c.args.graph.now.points.keys = omega (arith, c.len-number-end.ensures.len) in
    subst (λ (n : ℕ). Gains [] c.loop-number.edges.keys (IsEdgeBelow c.args.graph.now.points.keys c.args.graph.now.successors.items n)) all c.loop-number.invariant
