-- A value of a type is made of given elements exactly where it holds these alone, by their sorts.
use Rattle.std.proofs.Common.{◌≡◌, ◌↔◌, true, false, List, [], ◌∷◌, map, refl, sym, ap, subst, ◌∙◌}
use Rattle.std.specs.Prelude.{All, Contains, IsTrue}
use Rattle.std.specs.List.{flat_map, list_all, AllByRecursion}
use Rattle.std.specs.Map.{keys_of, values_of}
use Rattle.std.proofs.lemmas.Bool.{true≢false, and_parts, and_from, or_parts}
use Rattle.std.proofs.lemmas.List.Elements.{All-from_recursion, recursion_from_All}
use Rattle.flow_term.specs.declared.elem.Elem.{Elem, Elem-F, out-Elem, roll-Elem, roll-out-Elem}
use Rattle.flow_term.specs.declared.elem.Elem.TheVariants as elem
use Rattle.flow_term.specs.declared.value.Value.{Value, Value-F, out-Value}
use Rattle.flow_syntax.specs.declared.tables.TableDecl.{TableDecl}
use Rattle.flow_syntax.specs.DeclFaults.{has_int, has_inner_int, has_loose_int}
use Rattle.flow_syntax.specs.Types.{Sort, name_sort, pos_sort, str_sort, int_sort, enum_sort, pair_sort, Lattice, may, must, flat, map_to, pair_of, table}
use Rattle.value_domains.specs.Domains.{domain_of, IsValueOf, least_of}
use Rattle.value_domains.specs.Values.{ValueLayer, has_elem, IsOfSort, form_has_sort, elems_in, map_in, left_in, right_in, IsMay, IsMust, IsFlat, IsMapTo}
use Rattle.value_heights.specs.Heights.{is_within, is_flat_within}
use Rattle.value_heights.proofs.Told.{all_told, had, is_had, map_values, pair_parts}
use Rattle.value_heights.proofs.Within.{halves, whole}
use Rattle.expr_meaning.specs.Making.{Holds, FlatHolds}
use Rattle.tree_constraints.specs.Elements.{has_parts, is_one_of}
use Rattle.tree_constraints.proofs.Lists.{map_has, map_from, flat_map_has, flat_map_from}

both_all : {X : Type 0} (P Q R : X → Type 0) (xs : List X) → ((x : X) → P x → Q x → R x) → All P xs → All Q xs → All R xs
both_all P Q R xs f h g k d lt = f _ (h k d lt) (g k d lt)

both_rec : {X : Type 0} (P Q R : X → Type 0) (xs : List X) → ((x : X) → P x → Q x → R x) → AllByRecursion P xs → AllByRecursion Q xs → AllByRecursion R xs
both_rec P Q R [] f h g = tt
both_rec P Q R (x ∷ xs) f h g = (f x h.0 g.0, both_rec P Q R xs f h.1 g.1)

-- the pairs are those of elements of their parts
abbrev pub HasPairs : (Sort → List Elem) → Type 0
HasPairs els = (s t : Sort) → els (pair_sort s t) ≡ flat_map (λ a. map (elem.Pair a) (els t)) (els s)

abbrev pub Among : (Sort → List Elem) → Sort → Elem → Type 0
Among els s x = IsTrue (is_one_of els s x)

module _ (els : Sort → List Elem) (pairs : HasPairs els) where
  -- ELEMENTS

  abbrev Agree : Sort → Elem → Type 0
  Agree s e = (has_elem (els s) e ≡ true → Among els s e) × (Among els s e → has_elem (els s) e ≡ true)

  pair_listed : (s t : Sort) (e : Elem) → has_elem (els (pair_sort s t)) e ≡ true → (a : Elem) × (b : Elem) × (has_elem (els s) a ≡ true) × (has_elem (els t) b ≡ true) × (elem.Pair a b ≡ e)
  pair_listed s t e h =
      let one = flat_map_from (λ a. map (elem.Pair a) (els t)) (els s) e (subst (λ (xs : List Elem). Contains xs e) (pairs s t) (had (els (pair_sort s t)) e h)) in
      let other = map_from (elem.Pair one.0) (els t) e one.2 in
      (one.0, other.0, is_had (els s) one.0 one.1, is_had (els t) other.0 other.1, other.2)

  pair_lists : (s t : Sort) (a b : Elem) → has_elem (els s) a ≡ true → has_elem (els t) b ≡ true → has_elem (els (pair_sort s t)) (elem.Pair a b) ≡ true
  pair_lists s t a b ha hb =
      is_had (els (pair_sort s t)) (elem.Pair a b) (subst (λ (xs : List Elem). Contains xs (elem.Pair a b)) (sym (pairs s t))
      (flat_map_has (λ a. map (elem.Pair a) (els t)) (els s) a (elem.Pair a b) (had (els s) a ha) (map_has (elem.Pair a) (els t) b (had (els t) b hb))))

  sorts_of : (s t : Sort) (a b : Elem) → IsOfSort (pair_sort s t) (elem.Pair a b) → IsOfSort s a × IsOfSort t b
  sorts_of s t a b h = and_parts (form_has_sort s (out-Elem a)) (form_has_sort t (out-Elem b)) (sym (ap (form_has_sort (pair_sort s t)) (elem.outs-Pair a b)) ∙ h)

  parts_had : (s t : Sort) → ((a : Elem) → IsOfSort s a → Agree s a) → ((b : Elem) → IsOfSort t b → Agree t b) → (x : Elem-F Elem) → form_has_sort (pair_sort s t) x ≡ true
      → has_parts (is_one_of els s) (is_one_of els t) x ≡ true → has_elem (els (pair_sort s t)) (roll-Elem x) ≡ true
  parts_had s t one other (Elem-F.Pair a b) sorted h =
      let sorts = and_parts (form_has_sort s (out-Elem a)) (form_has_sort t (out-Elem b)) sorted in
      let parts = and_parts (is_one_of els s a) (is_one_of els t b) h in
      ap (has_elem (els (pair_sort s t))) (elem.rolls-Pair a b) ∙ pair_lists s t a b ((one a sorts.0).1 parts.0) ((other b sorts.1).1 parts.1)
  parts_had s t one other _ sorted h = absurd (true≢false (sym sorted))

  agree : (s : Sort) → has_int s ≡ false → (e : Elem) → IsOfSort s e → Agree s e
  agree name_sort none e sorted = (λ h. h, λ h. h)
  agree pos_sort none e sorted = (λ h. h, λ h. h)
  agree str_sort none e sorted = (λ h. h, λ h. h)
  agree (enum_sort name) none e sorted = (λ h. h, λ h. h)
  agree int_sort none e sorted = absurd (true≢false none)
  agree (pair_sort s t) none e sorted =
      let parts = or_parts (has_int s) (has_int t) none in (
        λ h. let found = pair_listed s t e h in
            let a = found.0 in
            let b = found.1 in
            let sorts = sorts_of s t a b (subst (IsOfSort (pair_sort s t)) (sym found.4) sorted) in
            subst (Among els (pair_sort s t)) found.4 (ap (has_parts (is_one_of els s) (is_one_of els t)) (elem.outs-Pair a b)
            ∙ and_from (is_one_of els s a) (is_one_of els t b) ((agree s parts.0 a sorts.0).0 found.2) ((agree t parts.1 b sorts.1).0 found.3)),
        λ h. ap (has_elem (els (pair_sort s t))) (sym (roll-out-Elem e)) ∙ parts_had s t (agree s parts.0) (agree t parts.1) (out-Elem e) sorted h,
      )

  -- SETS

  sets_agree : (s : Sort) → has_int s ≡ false → (xs : List Elem) → All (IsOfSort s) xs → (list_all (has_elem (els s)) xs ≡ true) ↔ All (Among els s) xs
  sets_agree s none xs sorts = (
    λ h. both_all (IsOfSort s) (λ x. IsTrue (has_elem (els s) x)) (Among els s) xs (λ x sorted k. (agree s none x sorted).0 k) sorts ((all_told (has_elem (els s)) xs).0 h),
    λ h. (all_told (has_elem (els s)) xs).1 (both_all (IsOfSort s) (Among els s) (λ x. IsTrue (has_elem (els s) x)) xs (λ x sorted k. (agree s none x sorted).1 k) sorts h),
  )

  may_agrees : (s : Sort) → has_int s ≡ false → (l : ValueLayer) → IsMay s l → (list_all (has_elem (els s)) (elems_in l) ≡ true) ↔ All (Among els s) (elems_in l)
  may_agrees s none (Value-F.Set xs) valid = sets_agree s none xs valid.sorts
  may_agrees s none _ valid = absurd valid

  must_agrees : (s : Sort) → has_int s ≡ false → (l : ValueLayer) → IsMust s l → (list_all (has_elem (els s)) (elems_in l) ≡ true) ↔ All (Among els s) (elems_in l)
  must_agrees s none Value-F.Unreached valid = all_told (is_one_of els s) []
  must_agrees s none (Value-F.Set xs) valid = sets_agree s none xs valid.sorts
  must_agrees s none _ valid = absurd valid

  -- FLAT VALUES

  inner_agrees : (s : Sort) → has_inner_int s ≡ false → (e : Elem) → IsOfSort s e → (is_flat_within els s (Value-F.Flat e) ≡ true) ↔ Among els s e
  inner_agrees name_sort none e sorted = (λ h. h, λ h. h)
  inner_agrees pos_sort none e sorted = (λ h. h, λ h. h)
  inner_agrees str_sort none e sorted = (λ h. h, λ h. h)
  inner_agrees int_sort none e sorted = (λ h. refl, λ h. refl)
  inner_agrees (enum_sort name) none e sorted = (λ h. h, λ h. h)
  inner_agrees (pair_sort s t) none e sorted = agree (pair_sort s t) none e sorted

  flat_agrees : (s : Sort) → has_inner_int s ≡ false → (l : ValueLayer) → IsFlat s l → (is_flat_within els s l ≡ true) ↔ FlatHolds (Among els s) l
  flat_agrees s none (Value-F.Flat e) valid = inner_agrees s none e valid
  flat_agrees s none Value-F.Bottom valid = (λ h. tt, λ h. refl)
  flat_agrees s none Value-F.Top valid = (λ h. tt, λ h. refl)
  flat_agrees s none _ valid = absurd valid

  -- ALL

  keys_sorted : (s : Sort) (P : Value → Type 0) (least : Value) (l : ValueLayer) → IsMapTo s P least l → All (IsOfSort s) (keys_of (map_in l))
  keys_sorted s P least (Value-F.Map entries) h = h.sorts
  keys_sorted s P least _ h = absurd h

  pub within_agrees : (declared : List TableDecl) (l : Lattice) → has_loose_int l ≡ false → (v : Value) → IsValueOf (domain_of declared l) v → (is_within els (domain_of declared l) v ≡ true) ↔ Holds (Among els) (domain_of declared l) v
  within_agrees declared (may s) none v valid = may_agrees s none (out-Value v) valid
  within_agrees declared (must s) none v valid = must_agrees s none (out-Value v) valid
  within_agrees declared (flat s) none v valid = flat_agrees s none (out-Value v) valid
  within_agrees declared (map_to s inner) none v valid =
      let parts = or_parts (has_int s) (has_loose_int inner) none in
      let d = domain_of declared inner in
      let m = map_in (out-Value v) in
      let sorts = keys_sorted s (IsValueOf d) (least_of d) (out-Value v) valid in
      let sorted = recursion_from_All (IsOfSort s) (keys_of m) sorts in
      let values = map_values s (IsValueOf d) (least_of d) (out-Value v) valid in
      let p = has_elem (els s) in
      let q = is_within els d in (
        λ h. let both = halves p q m h in (
          All-from_recursion (Among els s) (keys_of m) (both_rec (IsOfSort s) (λ k. IsTrue (p k)) (Among els s) (keys_of m) (λ x is k. (agree s parts.0 x is).0 k) sorted both.0),
          All-from_recursion (Holds (Among els) d) (values_of m) (both_rec (IsValueOf d) (λ w. IsTrue (q w)) (Holds (Among els) d) (values_of m) (λ w is k. (within_agrees declared inner parts.1 w is).0 k) values both.1),
        ),
        λ h. whole p q m (both_rec (IsOfSort s) (Among els s) (λ k. IsTrue (p k)) (keys_of m) (λ x is k. (agree s parts.0 x is).1 k) sorted (recursion_from_All (Among els s) (keys_of m) h.0))
            (both_rec (IsValueOf d) (Holds (Among els) d) (λ w. IsTrue (q w)) (values_of m) (λ w is k. (within_agrees declared inner parts.1 w is).1 k) values (recursion_from_All (Holds (Among els) d) (values_of m) h.1)),
      )
  within_agrees declared (pair_of a b) none v valid =
      let parts = or_parts (has_loose_int a) (has_loose_int b) none in
      let valids = pair_parts (IsValueOf (domain_of declared a)) (IsValueOf (domain_of declared b)) (out-Value v) valid in
      let one = within_agrees declared a parts.0 (left_in (out-Value v)) valids.0 in
      let other = within_agrees declared b parts.1 (right_in (out-Value v)) valids.1 in (
        λ h. let both = and_parts (is_within els (domain_of declared a) (left_in (out-Value v))) (is_within els (domain_of declared b) (right_in (out-Value v))) h in (one.0 both.0, other.0 both.1),
        λ h. and_from (is_within els (domain_of declared a) (left_in (out-Value v))) (is_within els (domain_of declared b) (right_in (out-Value v))) (one.1 h.0) (other.1 h.1),
      )
  within_agrees declared (table name) none v valid = (λ h. tt, λ h. refl)
