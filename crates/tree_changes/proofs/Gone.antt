-- How the differences of two trees' constraints and unknowns come from those of their graphs.
use Rattle.std.proofs.Common.{◌≡◌, Bool, true, false, List, refl, sym, ap, subst, ◌∙◌, inl, inr, filter}
use Rattle.std.specs.Prelude.{◌⊎◌, not, Contains}
use Rattle.std.proofs.lemmas.Bool.{both_ways, not-true}
use Rattle.std.proofs.lemmas.List.Elements.{Contains-append_left, Contains-append_right, Contains-append_cases}
use Rattle.list_theory.specs.Lists.{has}
use Rattle.flow_term.specs.declared.graph.Node.{Node}
use Rattle.flow_term.specs.declared.graph.Unknown.{Unknown}
use Rattle.flow_syntax.specs.Graph.{IsNode}
use Rattle.tree_constraints.specs.declared.constraint.Constraint.{Constraint}
use Rattle.tree_constraints.specs.Constraints.{IsConstraint, IsUnknownOf, unknown_at}
use Rattle.tree_constraints.specs.Orders.{by_parts}
use Rattle.tree_constraints.proofs.Exact.{parts_tell}
use Rattle.tree_constraints.proofs.Lists.{has_from, contains_from, filter_has, flat_map_from, flat_map_has, map_from, map_has}
use Rattle.tree_listing.specs.declared.property.Property.{Property}
use Rattle.tree_listing.specs.Given.{property_of}
use Rattle.tree_listing.specs.Listing.{unknowns_at}
use Rattle.tree_listing.proofs.Members.{filter_from}
use Rattle.tree_changes.specs.Changes.{gone_around}
use Rattle.tree_changes.specs.Laws.{GoneByParts, UnknownsGoWithNodes}
use Rattle.tree_changes.proofs.Outside.{outside_stays, on_gone_is_gone}

pub unknowns_by_nodes : UnknownsGoWithNodes
unknowns_by_nodes spec old new properties nodes are diff = record {
  only = λ u h.
      let n = flat_map_from (unknowns_at properties) nodes u h in
      let p = map_from (λ (p : Property). unknown_at n.0 p.name) properties u n.2 in
      let decl = are.declared p.0 p.1 in
      let same : n.0 ≡ u.node = ap (λ (v : Unknown). v.node) p.2 in (
        record {
          node = subst (λ (m : Node). IsNode spec old m) same (diff.only n.0 n.1).0;
          property = decl.0;
          declared = decl.1;
          named = ap (λ (v : Unknown). v.property) (sym p.2) ∙ ap (λ (q : Property). q.name) (sym decl.2);
        },
        λ is. (diff.only n.0 n.1).1 (subst (λ (m : Node). IsNode spec new m) (sym same) is.node),
      );
  all = λ u h. elim (diff.all u.node h.node) [
    | inl among ↦
        let same : unknown_at u.node h.property.name.text ≡ u = λ i. record { node = u.node; property = sym h.named i } in
        inl (flat_map_has (unknowns_at properties) nodes u.node u among
        (subst (λ (v : Unknown). Contains (unknowns_at properties u.node) v) same (map_has (λ (p : Property). unknown_at u.node p.name) properties (property_of spec h.property) (are.all h.property h.declared))))
    | inr stays ↦ inr (record { node = stays; property = h.property; declared = h.declared; named = h.named })
  ];
}

pub gone_parts : GoneByParts
gone_parts spec old new gn an ge ae changed on old_at new_at change around = record { only = only; all = all }
  where
    only : (c : Constraint) → Contains (gone_around on old_at new_at) c → IsConstraint spec old c × (IsConstraint spec new c → ⊥)
    only c h = elim (Contains-append_cases on (filter (λ d. not (has by_parts.key new_at d)) old_at) c h) [
      | inl among ↦ let is = (around.on_gone c).0 among in (is.0, λ still. on_gone_is_gone spec old new gn an ge ae changed change c.key is.1 still.key)
      | inr kept ↦
          let w = filter_from (λ d. not (has by_parts.key new_at d)) old_at c kept in
          let is = (around.at_old c).0 w.0 in
          (is.0, λ still. both_ways (has by_parts.key new_at c) (not-true (has by_parts.key new_at c) w.1) (has_from by_parts.key parts_tell.keys new_at c ((around.at_new c).1 (still, is.1))))
    ]

    by_test : (c : Constraint) → IsConstraint spec old c → Contains changed c.key.target.node.path → (b : Bool) → has by_parts.key new_at c ≡ b → Contains (gone_around on old_at new_at) c ⊎ IsConstraint spec new c
    by_test c is among true e = inr ((around.at_new c).0 (contains_from by_parts.key parts_tell.keys new_at c e)).0
    by_test c is among false e = inl (Contains-append_right on (filter (λ d. not (has by_parts.key new_at d)) old_at) c (filter_has (λ d. not (has by_parts.key new_at d)) old_at c ((around.at_old c).1 (is, among)) (ap not e)))

    all : (c : Constraint) → IsConstraint spec old c → Contains (gone_around on old_at new_at) c ⊎ IsConstraint spec new c
    all c is = elim (outside_stays spec old new gn an ge ae changed change c is) [
      | inl on_gone ↦ inl (Contains-append_left on (filter (λ d. not (has by_parts.key new_at d)) old_at) c ((around.on_gone c).1 (is, on_gone)))
      | inr rest ↦ elim rest [
        | inl among ↦ by_test c is among (has by_parts.key new_at c) refl
        | inr stays ↦ inr stays
      ]
    ]
