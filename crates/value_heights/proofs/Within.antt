-- Values that are made of given elements: the least one is, joins are, and so is the value of a map at each key.
use Rattle.std.proofs.Common.{◌≡◌, ◌⊎◌, Bool, true, false, cond, ◌&&◌, List, [], ◌∷◌, refl, ap, ◌∙◌}
use Rattle.std.specs.Prelude.{All, IsTrue, Some, None}
use Rattle.std.specs.List.{list_all, AllByRecursion}
use Rattle.std.specs.Map.{keys_of, values_of}
use Rattle.std.specs.Ordering.{eq_by_cmp}
use Rattle.std.specs.BTreeMap.{insert_entry}
use Rattle.std.proofs.lemmas.Bool.{and_parts, and_from}
use Rattle.std.proofs.lemmas.List.Elements.{All-filter, All-head, All-tail, All-from_recursion, recursion_from_All}
use Rattle.std.proofs.lemmas.Map.Views.{All-values-insert_entry}
use Rattle.flow_term.specs.declared.elem.Elem.{Elem}
use Rattle.flow_term.specs.declared.value.Value.{Value, Value-F, out-Value, out-roll-Value}
use Rattle.flow_term.specs.declared.value.Value.TheVariants as value
use Rattle.flow_term.specs.Elements.{elem_cmp}
use Rattle.flow_syntax.specs.Types.{Sort}
use Rattle.value_domains.specs.Domains.{Domain, may, must, flat, map_to, pair_of, listed, least_of, joined_of}
use Rattle.value_domains.specs.Values.{ValueLayer, has_elem, union_of, elems_in, map_in, left_in, right_in, value_at, value_or, joined_to, map_join, must_join, flat_join}
use Rattle.value_domains.specs.inner.DomainLaws.{all_union, all_keys, map_opened}
use Rattle.value_heights.specs.Heights.{is_flat_within, is_within}
use Rattle.value_heights.proofs.Told.{all_told, key_or_absent, at_key}

-- MAPS

-- what is tested of keys and of values
pub halves : (p : Elem → Bool) (q : Value → Bool) (m : List (Elem × Value)) → list_all (λ e. p e.0 && q e.1) m ≡ true → AllByRecursion (λ k. IsTrue (p k)) (keys_of m) × AllByRecursion (λ v. IsTrue (q v)) (values_of m)
halves p q [] all = (tt, tt)
halves p q (e ∷ es) all =
    let parts = and_parts (p e.0 && q e.1) (list_all (λ e. p e.0 && q e.1) es) all in
    let both = and_parts (p e.0) (q e.1) parts.0 in
    let rest = halves p q es parts.1 in ((both.0, rest.0), (both.1, rest.1))

pub whole : (p : Elem → Bool) (q : Value → Bool) (m : List (Elem × Value)) → AllByRecursion (λ k. IsTrue (p k)) (keys_of m) → AllByRecursion (λ v. IsTrue (q v)) (values_of m) → list_all (λ e. p e.0 && q e.1) m ≡ true
whole p q [] keys values = refl
whole p q (e ∷ es) keys values = and_from (p e.0 && q e.1) (list_all (λ e. p e.0 && q e.1) es) (and_from (p e.0) (q e.1) keys.0 values.0) (whole p q es keys.1 values.1)

all_keys_pass : (p : Elem → Bool) (m : List (Elem × Value)) → AllByRecursion (λ k. IsTrue (p k)) (keys_of m) → list_all (λ e. p e.0) m ≡ true
all_keys_pass p [] keys = refl
all_keys_pass p (e ∷ es) keys = and_from (p e.0) (list_all (λ e. p e.0) es) keys.0 (all_keys_pass p es keys.1)

-- a value that is joined to the one at a key
joined_holds : (P : Value → Type 0) (join : Value → Value → Value) → ((v w : Value) → P v → P w → P (join v w)) → (m : List (Elem × Value)) (k : Elem) (w : Value) → All P (values_of m) → P w → P (joined_to join (value_at m k) w)
joined_holds P join closed [] k w all h = h
joined_holds P join closed (e ∷ es) k w all h =
    elim (eq_by_cmp elem_cmp k e.0) as (λ b. P (joined_to join (cond b (Some e.1) (value_at es k)) w)) [
      | true ↦ closed e.1 w (All-head P e.1 (values_of es) all) h
      | false ↦ joined_holds P join closed es k w (All-tail P e.1 (values_of es) all) h
    ]

all_values : (P : Value → Type 0) (join : Value → Value → Value) → ((v w : Value) → P v → P w → P (join v w)) → (a b : List (Elem × Value)) → All P (values_of a) → All P (values_of b) → All P (values_of (map_join join a b))
all_values P join closed a [] ha hb = ha
all_values P join closed a (e ∷ es) ha hb =
    let w = joined_to join (value_at a e.0) e.1 in
    all_values P join closed (insert_entry elem_cmp a e.0 w) es
    (All-values-insert_entry elem_cmp e.0 w P a ha (joined_holds P join closed a e.0 e.1 ha (All-head P e.1 (values_of es) hb))) (All-tail P e.1 (values_of es) hb)

module _ (elements : Sort → List Elem) where
  -- THE LEAST VALUE

  pub least_within : (d : Domain) → is_within elements d (least_of d) ≡ true
  least_within (may sort) = ap (λ l. list_all (has_elem (elements sort)) (elems_in l)) (value.outs-Set [])
  least_within (must sort) = ap (λ l. list_all (has_elem (elements sort)) (elems_in l)) value.outs-Unreached
  least_within (flat sort) = ap (is_flat_within elements sort) value.outs-Bottom
  least_within (map_to sort inner) = ap (λ l. list_all (λ e. has_elem (elements sort) e.0 && is_within elements inner e.1) (map_in l)) (value.outs-Map [])
  least_within (pair_of left right) =
      (λ i. is_within elements left (left_in (value.outs-Pair (least_of left) (least_of right) i)) && is_within elements right (right_in (value.outs-Pair (least_of left) (least_of right) i)))
      ∙ and_from (is_within elements left (least_of left)) (is_within elements right (least_of right)) (least_within left) (least_within right)
  least_within (listed t) = refl

  -- THE VALUE AT A KEY

  pub within_at : (sort : Sort) (inner : Domain) (v : Value) → is_within elements (map_to sort inner) v ≡ true → (k : Elem) → is_within elements inner (value_or (least_of inner) (map_in (out-Value v)) k) ≡ true
  within_at sort inner v h k = at_key (λ w. IsTrue (is_within elements inner w)) (least_of inner) (map_in (out-Value v)) k (least_within inner) (halves (has_elem (elements sort)) (is_within elements inner) (map_in (out-Value v)) h).1

  -- a key that is no element is absent
  pub absent_outside : (sort : Sort) (inner : Domain) (v : Value) → is_within elements (map_to sort inner) v ≡ true → (k : Elem) → (has_elem (elements sort) k ≡ true) ⊎ (value_at (map_in (out-Value v)) k ≡ None)
  absent_outside sort inner v h k = key_or_absent (has_elem (elements sort)) (map_in (out-Value v)) k (all_keys_pass (has_elem (elements sort)) (map_in (out-Value v)) (halves (has_elem (elements sort)) (is_within elements inner) (map_in (out-Value v)) h).0)

  -- JOINS

  must_joined : (sort : Sort) (a b : ValueLayer) → list_all (has_elem (elements sort)) (elems_in a) ≡ true → list_all (has_elem (elements sort)) (elems_in b) ≡ true → list_all (has_elem (elements sort)) (elems_in (must_join a b)) ≡ true
  must_joined sort Value-F.Unreached b ha hb = hb
  must_joined sort (Value-F.Set xs) (Value-F.Set ys) ha hb =
      (all_told (has_elem (elements sort)) _).1 (All-filter (λ x. has_elem ys x) (λ x. IsTrue (has_elem (elements sort) x)) xs ((all_told (has_elem (elements sort)) xs).0 ha))
  must_joined sort a _ ha hb = ha

  flat_joined : (sort : Sort) (a b : ValueLayer) → is_flat_within elements sort a ≡ true → is_flat_within elements sort b ≡ true → is_flat_within elements sort (flat_join a b) ≡ true
  flat_joined sort Value-F.Bottom b ha hb = hb
  flat_joined sort a Value-F.Bottom ha hb = ha
  flat_joined sort (Value-F.Flat x) (Value-F.Flat y) ha hb = elim (eq_by_cmp elem_cmp x y) as (λ b. is_flat_within elements sort (cond {A = ValueLayer} b (Value-F.Flat x) Value-F.Top) ≡ true) [ true ↦ ha | false ↦ refl ]
  flat_joined sort _ _ ha hb = refl

  pub joined_within : (d : Domain) (a b : Value) → is_within elements d a ≡ true → is_within elements d b ≡ true → is_within elements d (joined_of d a b) ≡ true
  joined_within (may sort) a b ha hb =
      let xs = elems_in (out-Value a) in let ys = elems_in (out-Value b) in let p = has_elem (elements sort) in
      ap (λ l. list_all p (elems_in l)) (value.outs-Set (union_of xs ys)) ∙ (all_told p (union_of xs ys)).1 (all_union (λ x. IsTrue (p x)) xs ys ((all_told p xs).0 ha) ((all_told p ys).0 hb))
  joined_within (must sort) a b ha hb =
      ap (λ l. list_all (has_elem (elements sort)) (elems_in l)) (out-roll-Value (must_join (out-Value a) (out-Value b))) ∙ must_joined sort (out-Value a) (out-Value b) ha hb
  joined_within (flat sort) a b ha hb = ap (is_flat_within elements sort) (out-roll-Value (flat_join (out-Value a) (out-Value b))) ∙ flat_joined sort (out-Value a) (out-Value b) ha hb
  joined_within (map_to sort inner) a b ha hb =
      let p = has_elem (elements sort) in
      let q = is_within elements inner in
      let m = map_in (out-Value a) in
      let n = map_in (out-Value b) in
      let join = joined_of inner in
      let P : Elem → Type 0 = λ k. IsTrue (p k) in
      let Q : Value → Type 0 = λ v. IsTrue (q v) in
      let left = halves p q m ha in
      let right = halves p q n hb in
      let keys = all_keys P join m n (All-from_recursion P (keys_of m) left.0) (All-from_recursion P (keys_of n) right.0) in
      let values = all_values Q join (joined_within inner) m n (All-from_recursion Q (values_of m) left.1) (All-from_recursion Q (values_of n) right.1) in
      ap (list_all (λ e. p e.0 && q e.1)) (map_opened (map_join join m n)) ∙ whole p q (map_join join m n) (recursion_from_All P (keys_of (map_join join m n)) keys) (recursion_from_All Q (values_of (map_join join m n)) values)
  joined_within (pair_of left right) a b ha hb =
      let qa = and_parts (is_within elements left (left_in (out-Value a))) (is_within elements right (right_in (out-Value a))) ha in
      let qb = and_parts (is_within elements left (left_in (out-Value b))) (is_within elements right (right_in (out-Value b))) hb in
      let l = joined_of left (left_in (out-Value a)) (left_in (out-Value b)) in
      let r = joined_of right (right_in (out-Value a)) (right_in (out-Value b)) in
      (λ i. is_within elements left (left_in (value.outs-Pair l r i)) && is_within elements right (right_in (value.outs-Pair l r i)))
      ∙ and_from (is_within elements left l) (is_within elements right r) (joined_within left (left_in (out-Value a)) (left_in (out-Value b)) qa.0 qb.0) (joined_within right (right_in (out-Value a)) (right_in (out-Value b)) qa.1 qb.1)
  joined_within (listed t) a b ha hb = refl
