use Rattle.std.proofs.Common.{◌≡◌, ◌↔◌, ◌⊎◌, ◌+◌, ◌++◌, ◌∷◌, [], List, take, sym, ap, ◌∙◌, subst, inl, inr}
use Rattle.std.specs.Prelude.{Contains}
use Rattle.std.proofs.lemmas.List.{take_more}
use Rattle.std.proofs.lemmas.List.Elements.{Contains-push, Contains-push_cases, Contains-append_left}
use Rattle.flow_term.specs.declared.graph.Edge.{Edge}
use Rattle.flow_links.specs.inner.Gains.{Gains}
use Rattle.flow_links.proofs.SetLemmas.{Gains-none, Gains-same, Gains-then, none_in_nil}
use Rattle.flow_graph.proofs.sorted.edge_set.Goals as goal

one_edge : (taken : List Edge) (x y : Edge) → y ≡ x → (e : Edge) → (Contains taken e ⊎ (e ≡ y)) ↔ Contains (taken ++ x ∷ []) e
one_edge taken x y same e = (
  λ h. elim h [ inl a ↦ Contains-append_left taken (x ∷ []) e a | inr b ↦ subst (λ (z : Edge). Contains (taken ++ x ∷ []) z) (sym (b ∙ same)) (Contains-push taken x) ],
  λ h. elim (Contains-push_cases taken x e h) [ inl a ↦ inl a | inr b ↦ inr (sym b ∙ sym same) ],
)

pub loop-edge-init : goal.loop-edge-init
loop-edge-init c = subst (λ (ks : List Edge). Gains [] ks (Contains [])) (sym c.new-set.ensures.empty) (Gains-none [] none_in_nil)

pub loop-edge-preserved : goal.loop-edge-preserved
loop-edge-preserved c =
    let longer : take (c.loop-edge.edge-index + 1) c.args.edges.now ≡ take c.loop-edge.edge-index c.args.edges.now ++ c.edge-item.result ∷ [] =
    take_more c.args.edges.now c.loop-edge.edge-index c.edge-item.result c.loop-edge-test.true
    ∙ ap (λ (y : Edge). take c.loop-edge.edge-index c.args.edges.now ++ y ∷ []) (sym c.edge-item.is) in
    subst (λ (es : List Edge). Gains [] c.add.new.set.keys (Contains es)) (sym longer)
    (Gains-same (Gains-then c.loop-edge.invariant c.in_ok-add.ensures) (one_edge (take c.loop-edge.edge-index c.args.edges.now) c.edge-item.result c.in_ok-duplicate.field-0 c.in_ok-duplicate.ensures))
