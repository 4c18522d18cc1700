-- The numbers of targets.
use Rattle.std.proofs.Common.{◌≡◌, ℕ, ◌<◌, ◌+◌, ◌*◌, List, [], ◌∷◌, length, map, refl, sym, ap, ◌∙◌}
use Rattle.std.specs.Prelude.{All}
use Rattle.std.specs.List.{position_or_len}
use Rattle.std.proofs.lemmas.List.Elements.{All-nil, All-cons}
use Rattle.std.proofs.lemmas.Option.{slice_get-get_or, slice_get_within}
use Rattle.flow_term.specs.declared.graph.Node.{Node}
use Rattle.flow_term.specs.declared.graph.Unknown.{Unknown}
use Rattle.flow_term.specs.Orders.{node_cmp}
use Rattle.tree_constraints.specs.declared.constraint.Constraint.{Constraint}
use Rattle.tree_constraints.specs.Constraints.{unknown_at}
use Rattle.tree_constraints.specs.Orders.{by_parts}
use Rattle.std.specs.List.Sorted.{IsStrictlySortedBy}
use Rattle.tree_listing.specs.declared.property.Property.{Property}
use Rattle.tree_listing.specs.Given.{name_cmp}
use Rattle.tree_listing.specs.Listing.{listed_unknowns}
use Rattle.tree_listing.proofs.Places.{by_place, numbers}
use Rattle.tree_build.specs.declared.ends.Ends.{Ends}
use Rattle.tree_build.specs.Ends.{AreEnds, IsEnds, no_property, property_at, TargetsAreRight, unknown_number}
use Rattle.tree_build.specs.Numbers.{no_node, node_of}

module _ (properties : List Property) (nodes : List Node) (by_name : IsStrictlySortedBy name_cmp properties) (in_order : IsStrictlySortedBy node_cmp nodes) where
  abbrev number : Constraint → ℕ
  number c = position_or_len (by_parts.unknown c.key.target) (listed_unknowns properties nodes)

  -- the unknown of a node and a property, by its number
  pub inside : (i j : ℕ) → i < length nodes → j < length properties → i * length properties + j < length (listed_unknowns properties nodes)
  inside i j hi hj =
      slice_get_within (listed_unknowns properties nodes) (i * length properties + j) _
      (by_place properties nodes i j (node_of nodes i) (property_at properties j) (slice_get-get_or nodes i no_node hi) (slice_get-get_or properties j no_property hj))

  pub number_at : (i j : ℕ) → i < length nodes → j < length properties → position_or_len (by_parts.unknown (unknown_at (node_of nodes i) (property_at properties j).name)) (listed_unknowns properties nodes) ≡ i * length properties + j
  number_at i j hi hj = numbers properties nodes by_name in_order i j (node_of nodes i) (property_at properties j) (slice_get-get_or nodes i no_node hi) (slice_get-get_or properties j no_property hj)

  one_right : (e : Ends) (c : Constraint) → IsEnds properties nodes e c → unknown_number (length properties) e ≡ number c
  one_right e c is =
      let target : unknown_at (node_of nodes e.number) (property_at properties e.place).name ≡ c.key.target = λ i. record { node = is.target.node_is i; property = is.target.name_is i } in
      sym (number_at e.number e.place is.target.number_within is.target.place_within)
      ∙ ap (λ (u : Unknown). position_or_len (by_parts.unknown u) (listed_unknowns properties nodes)) target

  all_right : (ends : List Ends) (cs : List Constraint) → AreEnds properties nodes ends cs → map (unknown_number (length properties)) ends ≡ map number cs
  all_right [] [] are = refl
  all_right [] (c ∷ cs) are = absurd are
  all_right (e ∷ ends) [] are = absurd are
  all_right (e ∷ ends) (c ∷ cs) are = λ i. one_right e c are.0 i ∷ all_right ends cs are.1 i

  all_inside : (ends : List Ends) (cs : List Constraint) → AreEnds properties nodes ends cs → All (λ e. unknown_number (length properties) e < length (listed_unknowns properties nodes)) ends
  all_inside [] cs are = All-nil (λ e. unknown_number (length properties) e < length (listed_unknowns properties nodes))
  all_inside (e ∷ ends) [] are = absurd are
  all_inside (e ∷ ends) (c ∷ cs) are = All-cons (λ e. unknown_number (length properties) e < length (listed_unknowns properties nodes)) e ends
      (inside e.number e.place are.0.target.number_within are.0.target.place_within) (all_inside ends cs are.1)

pub targets_right : TargetsAreRight
targets_right spec tree properties nodes ends cs ps ns are = (all_inside properties nodes ps.ordered ns.ordered ends cs are, all_right properties nodes ps.ordered ns.ordered ends cs are)
