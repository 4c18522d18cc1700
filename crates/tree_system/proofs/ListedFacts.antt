-- The tables that are worked out from listed constraints are those of their system.
use Rattle.std.proofs.Common.{◌≡◌, ◌<◌, ◌≤◌, ◌+◌, ◌*◌, ◌^◌, ℕ, List, [], ◌∷◌, Option, Some, None, map, filter, get_or, length, refl, sym, ap, subst, ◌∙◌, arith, inl, inr}
use Rattle.std.specs.Prelude.{All, nat_eq}
use Rattle.std.specs.List.{AllZip, flat_map, range_with_len}
use Rattle.std.proofs.Math.Nat.{lt_trans}
use Rattle.std.proofs.Math.Path.{transport}
use Rattle.std.proofs.lemmas.List.{get_or-map, length-map}
use Rattle.std.proofs.lemmas.List.Elements.{All-cons, All-from_get_or, All-map, All-nil}
use Rattle.std.proofs.lemmas.Option.{slice_get_cases}
use Rattle.list_theory.specs.Lists.{has}
use Rattle.list_theory.proofs.ListLemmas.{has-get_or}
use Rattle.flow_term.specs.declared.graph.Node.{Node}
use Rattle.flow_term.specs.declared.graph.Unknown.{Unknown}
use Rattle.flow_syntax.specs.declared.expr.Side.{Side}
use Rattle.flow_syntax.specs.declared.expr.Side.TheVariants as side
use Rattle.flow_syntax.specs.declared.spec.Spec.{Spec}
use Rattle.constraint_names.specs.Numbering.{Numbering}
use Rattle.typed_bodies.specs.Anywhere.{reads_at}
use Rattle.tree_constraints.specs.declared.constraint.Constraint.{Constraint}
use Rattle.tree_constraints.specs.Orders.{by_parts}
use Rattle.tree_constraints.specs.Solutions.{AreConstraints, AreUnknowns}
use Rattle.tree_constraints.proofs.Exact.{parts_tell}
use Rattle.tree_listing.specs.declared.property.Property.{Property}
use Rattle.tree_listing.specs.Listing.{listed_unknowns}
use Rattle.tree_listing.proofs.Listed.{listed_are_unknowns}
use Rattle.tree_build.specs.declared.ends.Ends.{Ends}
use Rattle.tree_build.specs.declared.properties.Properties.{Properties}
use Rattle.tree_build.specs.Ends.{IsEnds, unknown_number}
use Rattle.tree_build.proofs.TargetFacts.{inside, targets_right}
use Rattle.tree_solutions.proofs.There.{rules_there}
use Rattle.tree_system.specs.declared.reading.Bases.{Bases}
use Rattle.tree_system.specs.Bodies.{readings_from}
use Rattle.tree_system.specs.Reading.{number_at}
use Rattle.tree_system.specs.Tables.{AreBases, AreTables, IsAt, by_place, no_bases, no_constraint, target_number}
use Rattle.tree_system.specs.TableLaws.{IsInUse}
use Rattle.tree_system.specs.inner.Rows.{AreListed, IsRow, bases_by, no_ends, number_by}
use Rattle.tree_system.proofs.BuildFacts.{aiming_at, all_keys, all_unknowns, back, bases_numbers, ends_at, own_key, properties_at, readers_at, reads_at_key, targets_at}
use Rattle.tree_system.proofs.ReadFacts.{declared_all}
use Rattle.tree_system.proofs.TableFacts.{below_from, range_rises}

zip_length : {X Y : Type 0} (R : X → Y → Type 0) (xs : List X) (ys : List Y) → AllZip R xs ys → length xs ≡ length ys
zip_length R [] [] h = refl
zip_length R [] (y ∷ ys) h = absurd h
zip_length R (x ∷ xs) [] h = absurd h
zip_length R (x ∷ xs) (y ∷ ys) h = let rest = zip_length R xs ys h.1 in omega (arith, rest)

module _ (spec : Spec) (properties : Properties) (nodes : List Node) (cs : List Constraint) (ends : List Ends) (unknowns : List Unknown) (listed : AreListed spec properties nodes cs ends unknowns) where
  abbrev ps : List Property
  ps = properties.list

  abbrev us : List Unknown
  us = listed_unknowns ps nodes

  abbrev n : Numbering Constraint Unknown
  n = by_place cs us (range_with_len 0 (length cs)) (range_with_len 0 (length us))

  pub as_many : length ends ≡ length cs
  as_many = zip_length (IsEnds ps nodes) ends cs listed.are_ends

  hu : AreUnknowns spec listed.tree us
  hu = listed_are_unknowns spec listed.tree ps nodes listed.prepared.are listed.are_nodes

  stands : (k : ℕ) → k < length cs → (k < length ends) × IsEnds ps nodes (get_or ends k no_ends) (get_or cs k no_constraint)
  stands k within = ends_at spec listed.tree properties nodes listed.prepared listed.are_nodes cs listed.are_constraints ends listed.are_ends k within

  -- the number of an unknown, by those of its node and its property, is below the number of unknowns
  inner : (i j : ℕ) → i < length nodes → j < length ps → i * length ps + j < length us
  inner i j hi hj = inside ps nodes listed.prepared.are.ordered listed.are_nodes.ordered i j hi hj

  counted : (m : ℕ) → m ≡ length unknowns → m ≡ length us
  counted m e = e ∙ ap length listed.unknowns_are

  pub targets_inside : (es : List Ends) → es ≡ ends → (w : ℕ) → w ≡ length ps → (m : ℕ) → m ≡ length unknowns → All (λ e. unknown_number w e < m) es
  targets_inside es ee w ew m em =
      transport (λ i. All (λ (e : Ends). unknown_number (sym ew i) e < sym (counted m em) i) (sym ee i)) (targets_right spec listed.tree ps nodes ends cs listed.prepared.are listed.are_nodes listed.are_ends).0

  bases_below : All (λ (e : Ends). (e.number * length ps ≤ length us) × (e.origin * length ps ≤ length us)) ends
  bases_below = All-from_get_or (λ (e : Ends). (e.number * length ps ≤ length us) × (e.origin * length ps ≤ length us)) ends no_ends (λ k within.
      let is = (stands k (subst (λ m. k < m) as_many within)).1 in
      let one = inner (get_or ends k no_ends).number (get_or ends k no_ends).place is.target.number_within is.target.place_within in
      let two = inner (get_or ends k no_ends).origin (get_or ends k no_ends).place is.origin_within is.target.place_within in
      (omega (arith, one), omega (arith, two)))

  pub bases_inside : (es : List Ends) → es ≡ ends → (w : ℕ) → w ≡ length ps → (m : ℕ) → m ≡ length unknowns → All (λ (e : Ends). (e.number * w ≤ m) × (e.origin * w ≤ m)) es
  bases_inside es ee w ew m em =
      transport (λ i. All (λ (e : Ends). (e.number * sym ew i ≤ sym (counted m em) i) × (e.origin * sym ew i ≤ sym (counted m em) i)) (sym ee i)) bases_below

  pub numbers_inside : (ts : List ℕ) → ts ≡ map (unknown_number (length ps)) ends → (m : ℕ) → m ≡ length unknowns → All (λ u. u < m) ts
  numbers_inside ts te m em = subst (λ (xs : List ℕ). All (λ u. u < m) xs) (sym te) (All-map (λ u. u < m) (unknown_number (length ps)) ends (targets_inside ends refl (length ps) refl m em))

  rule_there : (k i : ℕ) → k < length cs → (get_or cs k no_constraint).rule ≡ Some i → i < length spec.rules
  rule_there k i within e =
      rules_there spec cs us ∣ record { tree = listed.tree; are_constraints = listed.are_constraints; are_unknowns = hu } ∣₁ (get_or cs k no_constraint) (has-get_or by_parts.key parts_tell.keys cs k no_constraint within) i e

  pub rules_inside : (xs : List Constraint) → xs ≡ cs → (k i : ℕ) → k < length xs → (get_or xs k no_constraint).rule ≡ Some i → i < length spec.rules
  rules_inside xs xe = subst (λ (zs : List Constraint). (k i : ℕ) → k < length zs → (get_or zs k no_constraint).rule ≡ Some i → i < length spec.rules) (sym xe) rule_there

  pub bases_are : (bs : List Bases) (es : List Ends) (w : ℕ) → bs ≡ map (bases_by w) es → es ≡ ends → w ≡ length ps → bs ≡ map (bases_by (length ps)) ends
  bases_are bs es w eb ee ew = eb ∙ (λ i. map (bases_by (ew i)) (ee i))

  base_at_key : (k : ℕ) → k < length cs → get_or (map (bases_by (length ps)) ends) k no_bases ≡ bases_by (length ps) (get_or ends k no_ends)
  base_at_key k within = get_or-map (bases_by (length ps)) ends k no_ends no_bases (stands k within).0

  copied_below : (k : ℕ) → k < length cs → (get_or (map (bases_by (length ps)) ends) k no_bases).other + (get_or ends k no_ends).place < length us
  copied_below k within =
      let is = (stands k within).1 in
      subst (λ (b : Bases). b.other + (get_or ends k no_ends).place < length us) (sym (base_at_key k within)) (inner (get_or ends k no_ends).origin (get_or ends k no_ends).place is.origin_within is.target.place_within)

  side_below : (k p : ℕ) (s : Side) → k < length cs → get_or properties.places p 0 < length ps → number_at (bases_by (length ps) (get_or ends k no_ends)) properties.places p s < length us
  side_below k p side.This within at = let is = (stands k within).1 in inner (get_or ends k no_ends).number (get_or properties.places p 0) is.target.number_within at
  side_below k p side.Prev within at = let is = (stands k within).1 in inner (get_or ends k no_ends).origin (get_or properties.places p 0) is.origin_within at
  side_below k p side.Next within at = let is = (stands k within).1 in inner (get_or ends k no_ends).origin (get_or properties.places p 0) is.origin_within at

  place_below : (p : ℕ) → p < length properties.places → get_or properties.places p 0 < length ps
  place_below p within = elim ((slice_get_cases spec.properties p).1) [
    | inl r ↦ (listed.prepared.places_are p r.0 r.2).within
    | inr r ↦ let out = r.0 in absurd (omega (arith, within, out, listed.prepared.placed))
  ]

  read_below : (k p : ℕ) (s : Side) → k < length cs → p < length properties.places → number_at (get_or (map (bases_by (length ps)) ends) k no_bases) properties.places p s < length us
  read_below k p s within at =
      subst (λ (b : Bases). number_at b properties.places p s < length us) (sym (base_at_key k within)) (side_below k p s within (place_below p at))

  module _ (bs : List Bases) (eb : bs ≡ map (bases_by (length ps)) ends) (m : ℕ) (em : m ≡ length unknowns) where
    pub copied_inside : (xs : List Constraint) → xs ≡ cs → (es : List Ends) → es ≡ ends → (k : ℕ) → k < length xs → (get_or bs k no_bases).other + (get_or es k no_ends).place < m
    copied_inside xs xe es ee =
        transport (λ i. (k : ℕ) → k < length (sym xe i) → (get_or (sym eb i) k no_bases).other + (get_or (sym ee i) k no_ends).place < sym (counted m em) i) copied_below

    pub read_inside : (xs : List Constraint) → xs ≡ cs → (places : List ℕ) → places ≡ properties.places → (k p : ℕ) (s : Side) → k < length xs → p < length places → number_at (get_or bs k no_bases) places p s < m
    read_inside xs xe places pe =
        transport (λ i. (k p : ℕ) (s : Side) → k < length (sym xe i) → p < length (sym pe i) → number_at (get_or (sym eb i) k no_bases) (sym pe i) p s < sym (counted m em) i) (λ k p s within at. read_below k p s within at)

    -- the rows of what is read
    module _ (xs : List Constraint) (xe : xs ≡ cs) (es : List Ends) (ee : es ≡ ends) (places : List ℕ) (pe : places ≡ properties.places) (rows : List (List ℕ)) (long : length rows ≡ length xs)
        (are_rows : (k : ℕ) → k < length xs → IsRow spec (get_or bs k no_bases) (get_or es k no_ends).place places (get_or xs k no_constraint).rule (get_or rows k [])) where
      pub rows_long : length rows ≡ length cs
      rows_long = long ∙ ap length xe

      pub rows_are : (k : ℕ) → k < length cs → IsRow spec (get_or (map (bases_by (length ps)) ends) k no_bases) (get_or ends k no_ends).place properties.places (get_or cs k no_constraint).rule (get_or rows k [])
      rows_are = transport (λ i. (k : ℕ) → k < length (xe i) → IsRow spec (get_or (eb i) k no_bases) (get_or (ee i) k no_ends).place (pe i) (get_or (xe i) k no_constraint).rule (get_or rows k [])) are_rows

      row_inside : (k : ℕ) → k < length cs → (o : Option ℕ) → (get_or cs k no_constraint).rule ≡ o → (row : List ℕ)
          → IsRow spec (get_or (map (bases_by (length ps)) ends) k no_bases) (get_or ends k no_ends).place properties.places o row → All (λ u. u < length us) row
      row_inside k within None e row is = subst (λ (r : List ℕ). All (λ u. u < length us) r) (sym is) (All-cons (λ u. u < length us) _ [] (copied_below k within) (All-nil (λ u. u < length us)))
      row_inside k within (Some i) e row is = elim ((slice_get_cases spec.rules i).1) [
        | inl r ↦
            let b = get_or (map (bases_by (length ps)) ends) k no_bases in
            let rs = readings_from (reads_at spec r.0.body) 0 spec.properties in
            subst (λ (r : List ℕ). All (λ u. u < length us) r) (sym (is r.0 r.2)) (All-map (λ u. u < length us) (number_by b properties.places) rs (λ j d lt.
            let declared = declared_all (reads_at spec r.0.body) spec.properties rs refl j d lt in
            read_below k (get_or rs j d).property (get_or rs j d).side within (omega (arith, declared, listed.prepared.placed))))
        | inr r ↦ let out = r.0 in let there = rule_there k i within e in absurd (omega (arith, out, there))
      ]

      all_rows : All (λ (row : List ℕ). All (λ u. u < length us) row) rows
      all_rows = All-from_get_or (λ (row : List ℕ). All (λ u. u < length us) row) rows [] (λ k lt.
          let within : k < length cs = omega (arith, lt, rows_long) in
          row_inside k within (get_or cs k no_constraint).rule refl (get_or rows k []) (rows_are k within))

      pub rows_inside : (rs : List (List ℕ)) → rs ≡ rows → All (λ (row : List ℕ). All (λ u. u < m) row) rs
      rows_inside rs re = transport (λ i. All (λ (row : List ℕ). All (λ u. u < sym (counted m em) i) row) (sym re i)) all_rows

  -- what holds of all constraints and unknowns holds of those in use
  moved : (P : List Unknown → List ℕ → List ℕ → Type 0) → (keys in_use : List ℕ) → keys ≡ range_with_len 0 (length cs) → in_use ≡ range_with_len 0 (length unknowns)
      → P us (range_with_len 0 (length cs)) (range_with_len 0 (length us)) → P unknowns keys in_use
  moved P keys in_use ke ie all =
      let ie2 : in_use ≡ range_with_len 0 (length us) = ie ∙ ap (λ (vs : List Unknown). range_with_len 0 (length vs)) listed.unknowns_are in
      transport (λ i. P (sym listed.unknowns_are i) (sym ke i) (sym ie2 i)) all

  pub tables_are : (targets : List ℕ) (rows waking aims : List (List ℕ)) (table : List ℕ) (m : ℕ) → m ≡ length unknowns → targets ≡ map (unknown_number (length ps)) ends → length rows ≡ length cs
      → ((k : ℕ) → k < length cs → IsRow spec (get_or (map (bases_by (length ps)) ends) k no_bases) (get_or ends k no_ends).place properties.places (get_or cs k no_constraint).rule (get_or rows k []))
      → length waking ≡ m → ((u : ℕ) → u < m → get_or waking u [] ≡ filter (λ k. has nat_eq (get_or rows k []) u) (range_with_len 0 (length rows)))
      → length aims ≡ m → ((u : ℕ) → u < m → get_or aims u [] ≡ filter (λ k. nat_eq (get_or targets k 0) u) (range_with_len 0 (length targets)))
      → table ≡ flat_map (λ n. properties.numbers) nodes
      → (keys in_use : List ℕ) → keys ≡ range_with_len 0 (length cs) → in_use ≡ range_with_len 0 (length unknowns)
      → AreTables spec (by_place cs unknowns keys in_use) (length cs) (length unknowns) targets rows waking aims table
  tables_are targets rows waking aims table m em te long are_rows long_w wake long_a aim is keys in_use ke ie =
      let t = listed.tree in
      let count : length us ≡ m = sym (counted m em) in
      moved (λ vs ks ws. AreTables spec (by_place cs vs ks ws) (length cs) (length vs) targets rows waking aims table) keys in_use ke ie (record {
        own_key = own_key spec t properties nodes listed.prepared listed.are_nodes cs listed.are_constraints ends listed.are_ends;
        back = back spec t properties nodes listed.prepared listed.are_nodes cs listed.are_constraints ends listed.are_ends;
        rise = range_rises (length cs);
        has_constraint = below_from (length cs);
        has_unknown = below_from (length us);
        targets_are = λ k used. subst (λ (xs : List ℕ). IsAt xs 0 k (target_number spec n k)) (sym te) (targets_at spec t properties nodes listed.prepared listed.are_nodes cs listed.are_constraints ends listed.are_ends k used);
        reads_are = reads_at_key spec t properties nodes listed.prepared listed.are_nodes cs listed.are_constraints ends listed.are_ends rows long rule_there are_rows;
        readers_are = readers_at spec t properties nodes listed.prepared listed.are_nodes cs listed.are_constraints ends listed.are_ends rows long rule_there are_rows waking m count long_w wake;
        aiming_are = aiming_at spec t properties nodes listed.prepared listed.are_nodes cs listed.are_constraints ends listed.are_ends targets te aims m count long_a aim;
        properties_are = properties_at spec t properties nodes listed.prepared listed.are_nodes cs listed.are_constraints ends listed.are_ends table is;
      })

  bases_hold : length us < 2 ^ 64 → AreBases spec n (map (bases_by (length ps)) ends) properties.places
  bases_hold fits = record {
    long = listed.prepared.placed;
    within = λ k used.
        let there = (stands k (below_from (length cs) k used)).0 in omega (arith, there, length-map ends (bases_by (length ps)));
    fit = λ k p s used at. let below = read_below k p s (below_from (length cs) k used) at in lt_trans below fits;
    numbers = bases_numbers spec listed.tree properties nodes listed.prepared listed.are_nodes cs listed.are_constraints ends listed.are_ends;
  }

  pub reading_is : (m : ℕ) → m ≡ length unknowns → m < 2 ^ 64 → (bs : List Bases) → bs ≡ map (bases_by (length ps)) ends → (places : List ℕ) → places ≡ properties.places
      → (keys in_use : List ℕ) → keys ≡ range_with_len 0 (length cs) → in_use ≡ range_with_len 0 (length unknowns) → AreBases spec (by_place cs unknowns keys in_use) bs places
  reading_is m em fits bs eb places pe keys in_use ke ie =
      moved (λ vs ks ws. AreBases spec (by_place cs vs ks ws) bs places) keys in_use ke ie
      (transport (λ i. AreBases spec n (sym eb i) (sym pe i)) (bases_hold (subst (λ x. x < 2 ^ 64) (counted m em) fits)))

  in_use_all : ∥ IsInUse spec n ∥₁
  in_use_all = ∣ record {
    tree = listed.tree;
    are_constraints = subst (AreConstraints spec listed.tree) (sym (all_keys spec listed.tree properties nodes listed.prepared listed.are_nodes cs listed.are_constraints ends listed.are_ends)) listed.are_constraints;
    are_unknowns = subst (AreUnknowns spec listed.tree) (sym (all_unknowns spec listed.tree properties nodes listed.prepared listed.are_nodes cs listed.are_constraints ends listed.are_ends)) hu;
  } ∣₁

  pub of_tree_is : (keys in_use : List ℕ) → keys ≡ range_with_len 0 (length cs) → in_use ≡ range_with_len 0 (length unknowns) → ∥ IsInUse spec (by_place cs unknowns keys in_use) ∥₁
  of_tree_is keys in_use ke ie = moved (λ vs ks ws. ∥ IsInUse spec (by_place cs vs ks ws) ∥₁) keys in_use ke ie in_use_all
