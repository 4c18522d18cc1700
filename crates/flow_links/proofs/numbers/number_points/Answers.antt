use Rattle.std.proofs.Common.{◌≡◌, ℕ, ◌+◌, List, [], ◌∷◌, ◌++◌, take, sym, ap, subst, ◌∙◌}
use Rattle.std.proofs.lemmas.List.{take_more}
use Rattle.flow_term.specs.declared.graph.Link.{Link}
use Rattle.flow_term.specs.declared.graph.Point.{Point}
use Rattle.flow_links.specs.inner.Numbers.{IsGraphOf}
use Rattle.flow_links.proofs.NumberLemmas.{no_links}
use Rattle.flow_links.proofs.numbers.number_points.Goals as goal

pub add_link-requires : goal.add_link-requires
add_link-requires c = c.loop-link.invariant.sizes

pub loop-link-init : goal.loop-link-init
loop-link-init c = subst (λ (ps : List Point). IsGraphOf [] ps c.new-successors.result.items) (sym c.new-points.ensures.empty)
    (subst (λ (rows : List (List ℕ)). IsGraphOf [] [] rows) (sym c.new-successors.ensures.items) no_links)

pub loop-link-preserved : goal.loop-link-preserved
loop-link-preserved c =
    let longer : take (c.loop-link.link-index + 1) c.args.links.now ≡ take c.loop-link.link-index c.args.links.now ++ c.link-item.result ∷ [] =
    take_more c.args.links.now c.loop-link.link-index c.link-item.result c.loop-link-test.true
    ∙ ap (λ (x : Link). take c.loop-link.link-index c.args.links.now ++ x ∷ []) (sym c.link-item.is) in
    subst (λ (xs : List Link). IsGraphOf xs c.add_link.new.points.keys c.add_link.new.successors.items) (sym longer)
    (c.in_ok-add_link.ensures.graph (take c.loop-link.link-index c.args.links.now) c.loop-link.invariant)
