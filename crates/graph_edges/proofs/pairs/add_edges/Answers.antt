use Rattle.std.proofs.Common.{◌≡◌, ◌+◌, ◌++◌, ◌∷◌, [], List, take, sym, ap, ◌∙◌, subst}
use Rattle.std.proofs.lemmas.List.{take_more}
use Rattle.flow_term.specs.declared.graph.Node.{Node}
use Rattle.flow_links.specs.inner.Gains.{Gains}
use Rattle.flow_links.proofs.SetLemmas.{Gains-none, Gains-same, Gains-then}
use Rattle.graph_edges.specs.inner.Pairs.{LeadsTo}
use Rattle.graph_edges.proofs.Listing.{no_targets, one_target}
use Rattle.graph_edges.proofs.pairs.add_edges.Goals as goal

pub loop-target-init : goal.loop-target-init
loop-target-init c = Gains-none c.args.out.now (no_targets c.args.source.now)

pub loop-target-preserved : goal.loop-target-preserved
loop-target-preserved c =
    let longer : take (c.loop-target.target-index + 1) c.args.targets.now ≡ take c.loop-target.target-index c.args.targets.now ++ c.target-item.result ∷ [] =
    take_more c.args.targets.now c.loop-target.target-index c.target-item.result c.loop-target-test.true
    ∙ ap (λ (y : Node). take c.loop-target.target-index c.args.targets.now ++ y ∷ []) (sym c.target-item.is) in
    subst (λ (ns : List Node). Gains c.args.out.now c.add_edge.new.out (LeadsTo c.args.source.now ns)) (sym longer)
    (Gains-same (Gains-then c.loop-target.invariant c.in_ok-add_edge.ensures) (one_target c.args.source.now (take c.loop-target.target-index c.args.targets.now) c.target-item.result))
