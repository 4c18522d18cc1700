use Rattle.std.proofs.Common.{◌≡◌, ◌+◌, List, [], ◌∷◌, ◌++◌, take, sym, ap, subst, ◌∙◌}
use Rattle.std.proofs.lemmas.List.{take_more}
use Rattle.flow_term.specs.declared.graph.Link.{Link}
use Rattle.flow_term.specs.declared.graph.Node.{Node}
use Rattle.flow_links.specs.inner.Ends.{IsEnd}
use Rattle.flow_links.specs.inner.Gains.{Gains}
use Rattle.flow_links.proofs.EndLemmas.{ends_more, no_ends}
use Rattle.flow_links.proofs.SetLemmas.{Gains-none, Gains-same, Gains-then}
use Rattle.flow_links.proofs.nodes.ends.Goals as goal

pub loop-link-init : goal.loop-link-init
loop-link-init c = subst (λ (ks : List Node). Gains [] ks (IsEnd [])) (sym c.new-nodes.ensures.empty) (Gains-none [] no_ends)

pub loop-link-preserved : goal.loop-link-preserved
loop-link-preserved c =
    let longer : take (c.loop-link.link-index + 1) c.args.links.now ≡ take c.loop-link.link-index c.args.links.now ++ c.link-item.result ∷ [] =
    take_more c.args.links.now c.loop-link.link-index c.link-item.result c.loop-link-test.true
    ∙ ap (λ (x : Link). take c.loop-link.link-index c.args.links.now ++ x ∷ []) (sym c.link-item.is) in
    subst (λ (xs : List Link). Gains [] c.add_ends.new.nodes.keys (IsEnd xs)) (sym longer)
    (Gains-same (Gains-then c.loop-link.invariant c.in_ok-add_ends.ensures) (ends_more (take c.loop-link.link-index c.args.links.now) c.link-item.result))
