-- Positions that are not at or below a replacement own what they owned, where the new term has the ways of the old one.
use Rattle.std.proofs.Common.{◌≡◌, ◌↔◌, ℕ, Bool, false, List, ◌∷◌, ◌++◌, Some, sym, ap, subst, ◌∙◌, inl, inr}
use Rattle.std.proofs.lemmas.Option.{same_Some}
use Rattle.flow_term.specs.declared.term.Term.{Term}
use Rattle.flow_term.specs.declared.graph.Node.{Node}
use Rattle.flow_term.specs.Trees.{At, Put}
use Rattle.flow_syntax.specs.declared.spec.Spec.{Spec}
use Rattle.flow_syntax.specs.Control.{entered_at}
use Rattle.graph_laws.specs.Replacements.{IsOwnedOutside, RulesStay, SameWays}
use Rattle.graph_laws.specs.Laws.{OwnedOutsideStays}
use Rattle.graph_laws.specs.Owners.{HasPlacedItems, Owns}
use Rattle.graph_laws.proofs.Elsewhere.{at_append, at_front, begins, entered_above, entered_append, put_above, rules_below, same_elsewhere}
use Rattle.graph_laws.proofs.Upwards.{owned_upwards}

module _ (spec : Spec) (placed : HasPlacedItems spec) (tree old new : Term) (from to : Node) where
  -- what holds at the place of the replacement
  record Holds (path : List ℕ) : Type 0 where
    at : At tree path ≡ Some old
    stay : RulesStay spec new tree path
    ways : SameWays spec (entered_at spec tree path) old new path

  -- a position above it owns the same edges in both trees
  above : (q : List ℕ) (n : ℕ) (rest : List ℕ) → Holds (q ++ n ∷ rest) → (t : Term) → At tree q ≡ Some t
      → Owns spec (entered_at spec tree q) t q from to ↔ Owns spec (entered_at spec (Put tree (q ++ n ∷ rest) new) q) (Put t (n ∷ rest) new) q from to
  above q n rest h t position =
      let same = owned_upwards spec new placed n rest (entered_at spec tree q) t old q (sym (at_append q (n ∷ rest) tree t position) ∙ h.at) (rules_below spec new q (n ∷ rest) tree t position h.stay)
      (subst (λ (e : Bool). SameWays spec e old new (q ++ n ∷ rest)) (entered_append spec new q (n ∷ rest) false tree t position) h.ways) from to in
      subst (λ (e : Bool). Owns spec (entered_at spec tree q) t q from to ↔ Owns spec e (Put t (n ∷ rest) new) q from to) (sym (entered_above spec new q (n ∷ rest) false tree t position h.stay)) same

  module _ (path : List ℕ) (holds : Holds path) where
    abbrev tree' : Term
    tree' = Put tree path new

    above_forth : (o : IsOwnedOutside spec tree path from to) (n : ℕ) (rest : List ℕ) → path ≡ o.owner ++ n ∷ rest → IsOwnedOutside spec tree' path from to
    above_forth o n rest e =
        let both = above o.owner n rest (subst Holds e holds) o.t o.position in
        record {
          owner = o.owner;
          outside = o.outside;
          t = Put o.t (n ∷ rest) new;
          position = ap (λ (p : List ℕ). At (Put tree p new) o.owner) e ∙ put_above spec new o.owner (n ∷ rest) tree o.t o.position;
          owns = subst (λ (p : List ℕ). Owns spec (entered_at spec (Put tree p new) o.owner) (Put o.t (n ∷ rest) new) o.owner from to) (sym e) (both.0 o.owns);
        }

    above_back : (o : IsOwnedOutside spec tree' path from to) (n : ℕ) (rest : List ℕ) → path ≡ o.owner ++ n ∷ rest → IsOwnedOutside spec tree path from to
    above_back o n rest e =
        let h = subst Holds e holds in
        let v = at_front o.owner (n ∷ rest) tree old h.at in
        let both = above o.owner n rest h v.0 v.1 in
        let same : o.t ≡ Put v.0 (n ∷ rest) new = same_Some o.t (Put v.0 (n ∷ rest) new) (sym o.position ∙ ap (λ (p : List ℕ). At (Put tree p new) o.owner) e ∙ put_above spec new o.owner (n ∷ rest) tree v.0 v.1) in
        record {
          owner = o.owner;
          outside = o.outside;
          t = v.0;
          position = v.1;
          owns = both.1 (subst (λ (p : List ℕ). Owns spec (entered_at spec (Put tree p new) o.owner) (Put v.0 (n ∷ rest) new) o.owner from to) e
              (subst (λ (u : Term). Owns spec (entered_at spec tree' o.owner) u o.owner from to) same o.owns));
        }

    forth : IsOwnedOutside spec tree path from to → IsOwnedOutside spec tree' path from to
    forth o = elim (begins path o.owner) [
      | inl front ↦ absurd (o.outside front.0 front.1)
      | inr either ↦ elim either [
        | inl a ↦ above_forth o a.0 a.1 a.2
        | inr apart ↦
            let same = same_elsewhere spec new path o.owner false tree apart holds.stay in
            record { owner = o.owner; outside = o.outside; t = o.t; position = same.0 ∙ o.position; owns = subst (λ (e : Bool). Owns spec e o.t o.owner from to) (sym same.1) o.owns }
      ]
    ]

    back : IsOwnedOutside spec tree' path from to → IsOwnedOutside spec tree path from to
    back o = elim (begins path o.owner) [
      | inl front ↦ absurd (o.outside front.0 front.1)
      | inr either ↦ elim either [
        | inl a ↦ above_back o a.0 a.1 a.2
        | inr apart ↦
            let same = same_elsewhere spec new path o.owner false tree apart holds.stay in
            record { owner = o.owner; outside = o.outside; t = o.t; position = sym same.0 ∙ o.position; owns = subst (λ (e : Bool). Owns spec e o.t o.owner from to) same.1 o.owns }
      ]
    ]

pub owned_outside : OwnedOutsideStays
owned_outside spec placed tree old new path at stay ways from to =
    let holds : Holds spec placed tree old new from to path = record { at = at; stay = stay; ways = ways } in
    (forth spec placed tree old new from to path holds, back spec placed tree old new from to path holds)
