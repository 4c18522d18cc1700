-- The tables that are built of a tree are those of its system.
use Rattle.std.proofs.Common.{◌≡◌, ◌<◌, ◌+◌, ◌*◌, ℕ, zero, suc, true, List, [], ◌∷◌, ◌++◌, Option, Some, None, map, filter, get_or, length, refl, sym, ap, ◌∙◌, arith, inl, inr}
use Rattle.std.specs.Prelude.{nat_eq, option_and_then, slice_get}
use Rattle.std.specs.Option.{option_map_or}
use Rattle.std.specs.List.{AllZip, flat_map, position_or_len, range_with_len}
use Rattle.std.specs.declared.cmp.Ordering.TheVariants.{Less, Equal}
use Rattle.std.proofs.lemmas.Bool.{cases_lt}
use Rattle.std.proofs.lemmas.List.{get_or-map, length-map, map-append}
use Rattle.std.proofs.lemmas.List.FromFn.{fill_by_all}
use Rattle.std.proofs.lemmas.Map.Keys.{Less-from_sorted}
use Rattle.std.proofs.lemmas.Option.{slice_get-get_or}
use Rattle.list_theory.specs.Lists.{has}
use Rattle.flow_term.specs.declared.graph.Node.{Node}
use Rattle.flow_term.specs.declared.graph.Unknown.{Unknown}
use Rattle.flow_term.specs.declared.term.Term.{Term}
use Rattle.flow_syntax.specs.declared.expr.Side.{Side}
use Rattle.flow_syntax.specs.declared.expr.Side.TheVariants as side
use Rattle.flow_syntax.specs.declared.property.PropDecl.{PropDecl}
use Rattle.flow_syntax.specs.declared.property.PropRule.{PropRule}
use Rattle.flow_syntax.specs.declared.spec.Spec.{Spec}
use Rattle.constraint_names.specs.Numbering.{Numbering}
use Rattle.typed_bodies.specs.Anywhere.{reads_at}
use Rattle.expr_meaning.specs.Meaning.{property_number}
use Rattle.tree_constraints.specs.declared.constraint.Constraint.{Constraint}
use Rattle.tree_constraints.specs.Constraints.{copied, node_at, reads_from, source, unknown_at}
use Rattle.tree_constraints.specs.Orders.{by_parts, constraint_cmp}
use Rattle.tree_constraints.specs.Solutions.{AreConstraints, AreUnknowns}
use Rattle.tree_constraints.proofs.Exact.{key_ties, parts_tell}
use Rattle.tree_listing.specs.declared.property.Property.{Property}
use Rattle.tree_listing.specs.Given.{AreNodes}
use Rattle.tree_listing.specs.Listing.{listed_unknowns, unknowns_at}
use Rattle.tree_listing.proofs.Listed.{listed_are_unknowns}
use Rattle.tree_listing.proofs.Places.{own_place}
use Rattle.tree_build.specs.declared.ends.Ends.{Ends}
use Rattle.tree_build.specs.declared.properties.Properties.{Properties}
use Rattle.tree_build.specs.Ends.{AreEnds, IsEnds, property_at, unknown_number}
use Rattle.tree_build.specs.Numbers.{node_of}
use Rattle.tree_build.specs.Prepared.{ArePrepared}
use Rattle.tree_build.proofs.TargetFacts.{number_at as place_number, targets_right}
use Rattle.tree_system.specs.declared.reading.Bases.{Bases}
use Rattle.tree_system.specs.Reading.{number_at}
use Rattle.tree_system.specs.Tables.{IsAt, by_place, no_bases, no_constraint, no_unknown, read_numbers, target_number}
use Rattle.tree_system.specs.inner.Rows.{IsRow, bases_by, no_ends}
use Rattle.tree_system.proofs.EvalFacts.{absent_from}
use Rattle.tree_system.proofs.ReadFacts.{numbers_read}
use Rattle.tree_system.proofs.TableFacts.{below_from, range_filter}

zip_at : {X Y : Type 0} (R : X → Y → Type 0) (xs : List X) (ys : List Y) (k : ℕ) (d : X) (e : Y) → AllZip R xs ys → k < length ys → (k < length xs) × R (get_or xs k d) (get_or ys k e)
zip_at R [] [] k d e h within = absurd (omega (arith, within))
zip_at R [] (y ∷ ys) k d e h within = absurd h
zip_at R (x ∷ xs) [] k d e h within = absurd h
zip_at R (x ∷ xs) (y ∷ ys) zero d e h within = (omega arith, h.0)
zip_at R (x ∷ xs) (y ∷ ys) (suc k) d e h within = let r = zip_at R xs ys k d e h.1 (omega (arith, within)) in let lt = r.0 in (omega (arith, lt), r.1)

module _ (spec : Spec) (tree : Term) (properties : Properties) (nodes : List Node) (prepared : ArePrepared spec properties) (are_nodes : AreNodes spec tree nodes)
    (cs : List Constraint) (hc : AreConstraints spec tree cs) (ends : List Ends) (are_ends : AreEnds properties.list nodes ends cs) where
  abbrev ps : List Property
  ps = properties.list

  abbrev us : List Unknown
  us = listed_unknowns ps nodes

  abbrev pub n : Numbering Constraint Unknown
  n = by_place cs us (range_with_len 0 (length cs)) (range_with_len 0 (length us))

  hu : AreUnknowns spec tree us
  hu = listed_are_unknowns spec tree ps nodes prepared.are are_nodes

  key_below : (k : ℕ) → has nat_eq n.keys k ≡ true → k < length cs
  key_below k h = below_from (length cs) k h

  -- no two constraints in order are one
  apart : (i j : ℕ) → i < j → j < length cs → get_or cs i no_constraint ≡ get_or cs j no_constraint → ⊥
  apart i j lt within e =
      let less : constraint_cmp (get_or cs i no_constraint) (get_or cs j no_constraint) ≡ Less = Less-from_sorted constraint_cmp cs i j no_constraint hc.ordered lt within in
      let no : Less ≡ Equal = sym less ∙ ap (λ (c : Constraint). constraint_cmp (get_or cs i no_constraint) c) (sym e) ∙ key_ties (get_or cs i no_constraint).key in
      cc

  pub own_key : (j k : ℕ) → has nat_eq n.keys j ≡ true → has nat_eq n.keys k ≡ true → by_parts.key (n.key j) (n.key k) ≡ true → j ≡ k
  own_key j k hj hk t =
      let e = parts_tell.keys.exact (n.key j) (n.key k) t in
      elim (cases_lt j k) [
        | inl lt ↦ absurd (apart j k lt (key_below k hk) e)
        | inr ge ↦ elim (cases_lt k j) [
          | inl lt ↦ absurd (apart k j lt (key_below j hj) (sym e))
          | inr le ↦ omega (arith, ge, le)
        ]
      ]

  pub back : (u : ℕ) → has nat_eq n.unknowns u ≡ true → n.number (n.unknown u) ≡ u
  back u h = own_place us (get_or us u no_unknown) u hu.ordered (slice_get-get_or us u no_unknown (below_from (length us) u h))

  pub ends_at : (k : ℕ) → k < length cs → (k < length ends) × IsEnds ps nodes (get_or ends k no_ends) (get_or cs k no_constraint)
  ends_at k within = zip_at (IsEnds ps nodes) ends cs k no_ends no_constraint are_ends within

  -- a property's unknown at a node has the number that is worked out
  node_number : (i p : ℕ) (d : PropDecl) (node : Node) → i < length nodes → node_of nodes i ≡ node → slice_get spec.properties p ≡ Some d
      → n.number (unknown_at node d.name.text) ≡ i * length ps + get_or properties.places p 0
  node_number i p d node within is at =
      let place = prepared.places_are p d at in
      let same : unknown_at (node_of nodes i) (property_at ps (get_or properties.places p 0)).name ≡ unknown_at node d.name.text = λ j. record { node = is j; property = place.named j } in
      sym (ap n.number same) ∙ place_number ps nodes prepared.are.ordered are_nodes.ordered i (get_or properties.places p 0) within place.within

  base_is : (k : ℕ) → k < length cs → get_or (map (bases_by (length ps)) ends) k no_bases ≡ bases_by (length ps) (get_or ends k no_ends)
  base_is k within = get_or-map (bases_by (length ps)) ends k no_ends no_bases (ends_at k within).0

  side_number : (k p : ℕ) (d : PropDecl) (s : Side) → k < length cs → slice_get spec.properties p ≡ Some d
      → n.number (unknown_at (node_at (n.key k).key s) d.name.text) ≡ number_at (bases_by (length ps) (get_or ends k no_ends)) properties.places p s
  side_number k p d side.This within at = let e = (ends_at k within).1 in node_number (get_or ends k no_ends).number p d (n.key k).key.target.node e.target.number_within e.target.node_is at
  side_number k p d side.Prev within at = let e = (ends_at k within).1 in node_number (get_or ends k no_ends).origin p d (source (n.key k).key.target.node (n.key k).key.origin) e.origin_within e.origin_is at
  side_number k p d side.Next within at = let e = (ends_at k within).1 in node_number (get_or ends k no_ends).origin p d (source (n.key k).key.target.node (n.key k).key.origin) e.origin_within e.origin_is at

  pub bases_numbers : (k p : ℕ) (d : PropDecl) (s : Side) → has nat_eq n.keys k ≡ true → slice_get spec.properties p ≡ Some d
      → n.number (unknown_at (node_at (n.key k).key s) d.name.text) ≡ number_at (get_or (map (bases_by (length ps)) ends) k no_bases) properties.places p s
  bases_numbers k p d s used at =
      side_number k p d s (key_below k used) at ∙ ap (λ (b : Bases). number_at b properties.places p s) (sym (base_is k (key_below k used)))

  -- which number a constraint's target has
  pub targets_at : (k : ℕ) → has nat_eq n.keys k ≡ true → IsAt (map (unknown_number (length ps)) ends) 0 k (target_number spec n k)
  targets_at k used =
      let within = key_below k used in
      let all = (targets_right spec tree ps nodes ends cs prepared.are are_nodes are_ends).1 in
      let there = (ends_at k within).0 in
      record {
        within = omega (arith, length-map ends (unknown_number (length ps)), there);
        is = ap (λ (xs : List ℕ). get_or xs k 0) all ∙ get_or-map (λ (c : Constraint). position_or_len (by_parts.unknown c.key.target) us) cs k no_constraint 0 within;
      }

  -- the numbers of what it reads, from the rows that are worked out
  module _ (rows : List (List ℕ)) (long : length rows ≡ length cs)
      (there : (k i : ℕ) → k < length cs → (get_or cs k no_constraint).rule ≡ Some i → i < length spec.rules)
      (are_rows : (k : ℕ) → k < length cs → IsRow spec (get_or (map (bases_by (length ps)) ends) k no_bases) (get_or ends k no_ends).place properties.places (get_or cs k no_constraint).rule (get_or rows k [])) where
    row_is : (k : ℕ) → k < length cs → (o : Option ℕ) → (get_or cs k no_constraint).rule ≡ o
        → IsRow spec (get_or (map (bases_by (length ps)) ends) k no_bases) (get_or ends k no_ends).place properties.places o (get_or rows k []) → get_or rows k [] ≡ read_numbers spec n k
    row_is k within None e row =
        let one = (ends_at k within).1 in
        let en = get_or ends k no_ends in
        let same : unknown_at (node_of nodes en.origin) (property_at ps en.place).name ≡ copied (n.key k).key = λ j. record { node = one.origin_is j; property = one.target.name_is j } in
        let number : n.number (copied (n.key k).key) ≡ en.origin * length ps + en.place =
        sym (ap n.number same) ∙ place_number ps nodes prepared.are.ordered are_nodes.ordered en.origin en.place one.origin_within one.target.place_within in
        row ∙ ap (λ (b : Bases). (b.other + en.place) ∷ []) (base_is k within) ∙ ap (λ (u : ℕ). u ∷ []) (sym number)
        ∙ sym (ap (λ (o : Option PropRule). map n.number (option_map_or (λ rule. reads_from (n.key k).key (reads_at spec rule.body) 0 spec.properties) o (copied (n.key k).key ∷ []))) (ap (option_and_then (λ j. slice_get spec.rules j)) e))
    row_is k within (Some i) e row = by (slice_get spec.rules i) refl
      where
        by : (o : Option PropRule) → slice_get spec.rules i ≡ o → get_or rows k [] ≡ read_numbers spec n k
        by (Some rule) at =
            let b = get_or (map (bases_by (length ps)) ends) k no_bases in
            row rule at
            ∙ sym (numbers_read n.number (n.key k).key b properties.places (reads_at spec rule.body) 0 spec.properties (λ p d s here.
            side_number k p d s within here ∙ ap (λ (c : Bases). number_at c properties.places p s) (sym (base_is k within)) ∙ ap (λ m. number_at b properties.places m s) (omega arith)))
            ∙ sym (ap (λ (o : Option PropRule). map n.number (option_map_or (λ rule. reads_from (n.key k).key (reads_at spec rule.body) 0 spec.properties) o (copied (n.key k).key ∷ [])))
            (ap (option_and_then (λ j. slice_get spec.rules j)) e ∙ at))
        by None at = let lt = there k i within e in let out = absent_from spec.rules i at in absurd (omega (arith, lt, out))

    pub reads_at_key : (k : ℕ) → has nat_eq n.keys k ≡ true → IsAt rows [] k (read_numbers spec n k)
    reads_at_key k used =
        let within = key_below k used in
        record { within = omega (arith, within, long); is = row_is k within (get_or cs k no_constraint).rule refl (are_rows k within) }

    pub readers_at : (waking : List (List ℕ)) (m : ℕ) → length us ≡ m → length waking ≡ m → ((u : ℕ) → u < m → get_or waking u [] ≡ filter (λ k. has nat_eq (get_or rows k []) u) (range_with_len 0 (length rows)))
        → (u : ℕ) → has nat_eq n.unknowns u ≡ true → IsAt waking [] u (filter (λ k. has nat_eq (read_numbers spec n k) u) n.keys)
    readers_at waking m count long_w is u used =
        let within = below_from (length us) u used in
        record {
          within = omega (arith, within, count, long_w);
          is = is u (omega (arith, within, count)) ∙ ap (λ m. filter (λ k. has nat_eq (get_or rows k []) u) (range_with_len 0 m)) long
              ∙ range_filter (λ k. has nat_eq (get_or rows k []) u) (λ k. has nat_eq (read_numbers spec n k) u) (length cs) (λ k lt. ap (λ (r : List ℕ). has nat_eq r u) (row_is k lt (get_or cs k no_constraint).rule refl (are_rows k lt)));
        }

  target_at : (k : ℕ) → k < length cs → get_or (map (unknown_number (length ps)) ends) k 0 ≡ target_number spec n k
  target_at k within =
      ap (λ (xs : List ℕ). get_or xs k 0) (targets_right spec tree ps nodes ends cs prepared.are are_nodes are_ends).1 ∙ get_or-map (λ (c : Constraint). position_or_len (by_parts.unknown c.key.target) us) cs k no_constraint 0 within

  pub aiming_at : (targets : List ℕ) → targets ≡ map (unknown_number (length ps)) ends → (aims : List (List ℕ)) (m : ℕ) → length us ≡ m → length aims ≡ m
      → ((u : ℕ) → u < m → get_or aims u [] ≡ filter (λ k. nat_eq (get_or targets k 0) u) (range_with_len 0 (length targets)))
      → (u : ℕ) → has nat_eq n.unknowns u ≡ true → IsAt aims [] u (filter (λ k. nat_eq (target_number spec n k) u) n.keys)
  aiming_at targets te aims m count long_a is u used =
      let within = below_from (length us) u used in
      let long : length targets ≡ length cs = ap length te ∙ ap length (targets_right spec tree ps nodes ends cs prepared.are are_nodes are_ends).1 ∙ length-map cs (λ (c : Constraint). position_or_len (by_parts.unknown c.key.target) us) in
      record {
        within = omega (arith, within, count, long_a);
        is = is u (omega (arith, within, count)) ∙ ap (λ m. filter (λ k. nat_eq (get_or targets k 0) u) (range_with_len 0 m)) long
            ∙ range_filter (λ k. nat_eq (get_or targets k 0) u) (λ k. nat_eq (target_number spec n k) u) (length cs) (λ k lt. ap (λ t. nat_eq t u) (ap (λ (xs : List ℕ). get_or xs k 0) te ∙ target_at k lt));
      }

  numbers_of_node : (node : Node) (qs : List Property) → map (λ (u : Unknown). property_number spec u.property) (unknowns_at qs node) ≡ map (λ (p : Property). property_number spec p.name) qs
  numbers_of_node node [] = refl
  numbers_of_node node (q ∷ qs) = ap (λ (xs : List ℕ). property_number spec q.name ∷ xs) (numbers_of_node node qs)

  numbers_of_nodes : (ms : List Node) → map (λ (u : Unknown). property_number spec u.property) (listed_unknowns ps ms) ≡ flat_map (λ n. properties.numbers) ms
  numbers_of_nodes [] = refl
  numbers_of_nodes (m ∷ ms) =
      map-append (λ (u : Unknown). property_number spec u.property) (unknowns_at ps m) (listed_unknowns ps ms)
      ∙ (λ i. (numbers_of_node m ps ∙ sym prepared.numbered) i ++ numbers_of_nodes ms i)

  pub properties_at : (table : List ℕ) → table ≡ flat_map (λ n. properties.numbers) nodes → (u : ℕ) → has nat_eq n.unknowns u ≡ true → IsAt table 0 u (property_number spec (n.unknown u).property)
  properties_at table is u used =
      let within = below_from (length us) u used in
      let all : table ≡ map (λ (u : Unknown). property_number spec u.property) us = is ∙ sym (numbers_of_nodes nodes) in
      record {
        within = omega (arith, within, ap length all, length-map us (λ (u : Unknown). property_number spec u.property));
        is = ap (λ (xs : List ℕ). get_or xs u 0) all ∙ get_or-map (λ (u : Unknown). property_number spec u.property) us u no_unknown 0 within;
      }

  -- the constraints and the unknowns in use are all
  pub all_keys : map n.key n.keys ≡ cs
  all_keys = sym (fill_by_all n.key cs (length cs) no_constraint refl (λ k lt. refl))

  pub all_unknowns : map n.unknown n.unknowns ≡ us
  all_unknowns = sym (fill_by_all n.unknown us (length us) no_unknown refl (λ k lt. refl))
