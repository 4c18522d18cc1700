use Rattle.std.proofs.Common.{◌≡◌, ◌+◌, ◌++◌, ◌∷◌, [], List, take, sym, ap, ◌∙◌, subst}
use Rattle.std.proofs.lemmas.List.{take_more}
use Rattle.flow_term.specs.declared.graph.Node.{Node}
use Rattle.flow_links.specs.inner.Gains.{Gains}
use Rattle.flow_links.proofs.SetLemmas.{Gains-none, Gains-same, Gains-then}
use Rattle.graph_edges.specs.inner.Pairs.{IsPairOf}
use Rattle.graph_edges.proofs.Listing.{no_sources, one_source}
use Rattle.graph_edges.proofs.pairs.add_pairs.Goals as goal

pub loop-source-init : goal.loop-source-init
loop-source-init c = Gains-none c.args.out.now (no_sources c.args.targets.now)

pub loop-source-preserved : goal.loop-source-preserved
loop-source-preserved c =
    let longer : take (c.loop-source.source-index + 1) c.args.sources.now ≡ take c.loop-source.source-index c.args.sources.now ++ c.source-item.result ∷ [] =
    take_more c.args.sources.now c.loop-source.source-index c.source-item.result c.loop-source-test.true
    ∙ ap (λ (y : Node). take c.loop-source.source-index c.args.sources.now ++ y ∷ []) (sym c.source-item.is) in
    subst (λ (ns : List Node). Gains c.args.out.now c.add_edges.new.out (IsPairOf ns c.args.targets.now)) (sym longer)
    (Gains-same (Gains-then c.loop-source.invariant c.in_ok-add_edges.ensures) (one_source (take c.loop-source.source-index c.args.sources.now) c.args.targets.now c.source-item.result))
