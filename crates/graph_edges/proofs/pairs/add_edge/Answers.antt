use Rattle.std.proofs.Common.{◌≡◌, List, sym, subst}
use Rattle.flow_term.specs.declared.graph.Edge.{Edge}
use Rattle.flow_term.proofs.Outcomes.{on_ok}
use Rattle.flow_links.specs.inner.Gains.{Gains}
use Rattle.flow_links.proofs.SetLemmas.{Gains-same}
use Rattle.graph_edges.proofs.Listing.{edge_same, one_more}
use Rattle.graph_edges.proofs.pairs.add_edge.Goals as goal

pub returns : goal.returns
returns c = on_ok c.push.result c.push.ensures.ok (λ longer. subst (λ (xs : List Edge). Gains c.args.out.now xs (λ e. (e.from ≡ c.args.source.now) × (e.to ≡ c.args.target.now))) (sym longer)
    (Gains-same (one_more c.args.out.now (record { from = c.in_ok-from.from; to = c.in_ok-to.to })) (edge_same c.in_ok-from.from c.in_ok-to.to c.args.source.now c.args.target.now c.in_ok-from.ensures c.in_ok-to.ensures)))
