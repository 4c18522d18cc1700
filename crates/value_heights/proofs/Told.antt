-- The tests tell which values a domain has, and which of two is below the other.
use Rattle.std.proofs.Common.{◌≡◌, ◌⊎◌, Bool, true, false, cond, not, ◌&&◌, List, [], ◌∷◌, refl, sym, ap, ◌∙◌, subst, inl, inr}
use Rattle.std.specs.Prelude.{All, Contains, IsTrue, Some, None, unwrap_or}
use Rattle.std.specs.Bool.{Decides}
use Rattle.std.specs.List.{list_all, AllByRecursion}
use Rattle.std.specs.List.Sorted.{IsStrictlySortedBy}
use Rattle.std.specs.Map.{keys_of, values_of}
use Rattle.std.specs.Ordering.{eq_by_cmp, is_lt}
use Rattle.std.specs.Cmp.{eq_by_cmp_equiv}
use Rattle.std.specs.declared.cmp.Ordering.{Ordering}
use Rattle.std.specs.declared.cmp.Ordering.TheVariants.{Less, Equal, Greater}
use Rattle.std.proofs.lemmas.Bool.{true≢false, and_parts, and_from, both_ways, cases_Bool, not_from_false, not-true, false_from_ne_true}
use Rattle.std.proofs.lemmas.Bool.Decides.{Decides-and, Decides-like, Decides-by_and}
use Rattle.std.proofs.lemmas.List.Elements.{All-contains, recursion_from_All, All-from_recursion}
use Rattle.std.proofs.lemmas.Map.Views.{All-from_any}
use Rattle.std.proofs.lemmas.Slice.Eq.{bytes_eq-Decides}
use Rattle.flow_term.specs.declared.elem.Elem.{Elem}
use Rattle.flow_term.specs.declared.value.Value.{Value, Value-F, out-Value}
use Rattle.flow_term.specs.Elements.{elem_cmp}
use Rattle.flow_syntax.specs.Types.{Sort}
use Rattle.lattice_sets.specs.SetLaws.{same_tied, ties_itself, has_contained, contains_had}
use Rattle.value_domains.specs.Domains.{Domain, may, must, flat, map_to, pair_of, listed, Table, table_join, item_in, IsListed, least_of, IsValueOf, IsBelowIn}
use Rattle.value_domains.specs.Lawful.{IsLawful}
use Rattle.value_domains.specs.Values.{ValueLayer, has_elem, is_of_sort, IsOfSort, IsSetOf, Includes, pairs_of, elems_in, map_in, left_in, right_in, value_at, value_or, IsMay, IsMust, IsFlat, IsMapTo, IsPairOf, IsBelowMust, IsBelowFlat}
use Rattle.value_domains.specs.inner.DomainLaws.{domain_laws, domain_order}
use Rattle.value_domains.specs.inner.Elements.{elem_total, elem_exact}
use Rattle.value_heights.specs.Laws.{ValuesAreTold, OrdersAreTold}
use Rattle.value_heights.specs.Tests.{includes, is_below_must, is_below_flat, is_below, rises, is_set, is_may, is_must, is_flat, is_map, is_pair, is_item, is_valid}

-- nothing is told of nothing
never : Decides false ⊥
never = (λ h. true≢false (sym h), λ h. absurd h)

-- ELEMENTS AND TEXTS

pub had : (xs : List Elem) (x : Elem) → has_elem xs x ≡ true → Contains xs x
had = contains_had elem_cmp elem_total elem_exact

pub is_had : (xs : List Elem) (x : Elem) → Contains xs x → has_elem xs x ≡ true
is_had = has_contained elem_cmp elem_total elem_exact

pub elem_told : (x y : Elem) → Decides (eq_by_cmp elem_cmp x y) (x ≡ y)
elem_told x y = (same_tied elem_cmp elem_total elem_exact x y, λ e. ap (eq_by_cmp elem_cmp x) (sym e) ∙ ties_itself elem_cmp elem_total elem_exact x)

pub all_told : (p : Elem → Bool) (xs : List Elem) → Decides (list_all p xs) (All (λ x. IsTrue (p x)) xs)
all_told p xs = Decides-by_and p (λ x. IsTrue (p x)) (list_all p) (λ x. (λ h. h, λ h. h)) refl (λ _ _. refl) xs

-- what holds of each element that a list has
pub all_had : (P : Elem → Type 0) (xs : List Elem) → ((x : Elem) → Contains xs x → P x) → All P xs
all_had P xs each = All-from_any (eq_by_cmp_equiv elem_total) P xs (λ x h. each x (had xs x h))

-- ORDER

pub includes_told : (xs ys : List Elem) → Decides (includes xs ys) (Includes xs ys)
includes_told xs ys =
    Decides-like (includes xs ys) (λ all x h. had xs x (All-contains (λ x. IsTrue (has_elem xs x)) ys x all h)) (λ each. all_had (λ x. IsTrue (has_elem xs x)) ys (λ x h. is_had xs x (each x h))) (all_told (has_elem xs) ys)

must_order_told : (a b : ValueLayer) → Decides (is_below_must a b) (IsBelowMust a b)
must_order_told Value-F.Unreached b = (λ h. tt, λ h. refl)
must_order_told (Value-F.Set xs) (Value-F.Set ys) = includes_told xs ys
must_order_told _ _ = never

flat_order_told : (a b : ValueLayer) → Decides (is_below_flat a b) (IsBelowFlat a b)
flat_order_told Value-F.Bottom b = (λ h. tt, λ h. refl)
flat_order_told (Value-F.Flat x) (Value-F.Flat y) = elem_told x y
flat_order_told a Value-F.Top = (λ h. tt, λ h. refl)
flat_order_told _ _ = never

-- MAPS AND PAIRS BY THEIR PARTS

-- what is tested of each key holds of a key, or it is absent
pub key_or_absent : (P : Elem → Bool) (m : List (Elem × Value)) (k : Elem) → list_all (λ e. P e.0) m ≡ true → (P k ≡ true) ⊎ (value_at m k ≡ None)
key_or_absent P [] k all = inr refl
key_or_absent P (e ∷ es) k all =
    let parts = and_parts (P e.0) (list_all (λ e. P e.0) es) all in
    elim (cases_Bool (eq_by_cmp elem_cmp k e.0)) [
      | inl h ↦ inl (ap P ((elem_told k e.0).0 h) ∙ parts.0)
      | inr h ↦ elim (key_or_absent P es k parts.1) [ inl p ↦ inl p | inr none ↦ inr (ap (λ b. cond b (Some e.1) (value_at es k)) h ∙ none) ]
    ]

-- what holds of the least value and of each value of a map holds of that at a key
pub at_key : (P : Value → Type 0) (least : Value) (m : List (Elem × Value)) (k : Elem) → P least → AllByRecursion P (values_of m) → P (value_or least m k)
at_key P least [] k h all = h
at_key P least (e ∷ es) k h all = elim (eq_by_cmp elem_cmp k e.0) as (λ b. P (unwrap_or (cond b (Some e.1) (value_at es k)) least)) [ true ↦ all.0 | false ↦ at_key P least es k h all.1 ]

firsts : (P Q : Value → Type 0) (vs : List Value) → AllByRecursion (λ v. P v × Q v) vs → AllByRecursion P vs
firsts P Q [] all = tt
firsts P Q (v ∷ vs) all = (all.0.0, firsts P Q vs all.1)

pub map_values : (sort : Sort) (P : Value → Type 0) (least : Value) (l : ValueLayer) → IsMapTo sort P least l → AllByRecursion P (values_of (map_in l))
map_values sort P least (Value-F.Map entries) h = firsts P (λ v. v ≡ least → ⊥) (values_of (pairs_of entries)) (recursion_from_All (λ v. P v × (v ≡ least → ⊥)) (values_of (pairs_of entries)) h.kept)
map_values sort P least _ h = absurd h

-- the value of a map at a key is one of the inner domain
pub valid_at : (sort : Sort) (inner : Domain) → IsLawful inner → (v : Value) → IsValueOf (map_to sort inner) v → (k : Elem) → IsValueOf inner (value_or (least_of inner) (map_in (out-Value v)) k)
valid_at sort inner lawful v h k =
    at_key (IsValueOf inner) (least_of inner) (map_in (out-Value v)) k (domain_laws inner lawful).least_valid (map_values sort (IsValueOf inner) (least_of inner) (out-Value v) h)

pub pair_parts : (P Q : Value → Type 0) (l : ValueLayer) → IsPairOf P Q l → P (left_in l) × Q (right_in l)
pair_parts P Q (Value-F.Pair left right) h = h
pair_parts P Q _ h = absurd h

-- the least value is below each
pub least_below : (d : Domain) → IsLawful d → (v : Value) → IsValueOf d v → IsBelowIn d (least_of d) v
least_below d lawful v h = let laws = domain_laws d lawful in (domain_order d lawful (least_of d) v laws.least_valid h).1 (laws.neutral v h)

pub orders_told : OrdersAreTold
orders_told (may sort) lawful a b va vb = includes_told (elems_in (out-Value b)) (elems_in (out-Value a))
orders_told (must sort) lawful a b va vb = must_order_told (out-Value a) (out-Value b)
orders_told (flat sort) lawful a b va vb = flat_order_told (out-Value a) (out-Value b)
orders_told (map_to sort inner) lawful a b va vb =
    let at : Value → Elem → Value = λ v k. value_or (least_of inner) (map_in (out-Value v)) k in
    let each : (k : Elem) → Decides (is_below inner (at a k) (at b k)) (IsBelowIn inner (at a k) (at b k)) = λ k. orders_told inner lawful (at a k) (at b k) (valid_at sort inner lawful a va k) (valid_at sort inner lawful b vb k) in (
      λ h k. elim (key_or_absent (λ k. is_below inner (at a k) (at b k)) (map_in (out-Value a)) k h) [
        | inl e ↦ (each k).0 e
        | inr none ↦ subst (λ v. IsBelowIn inner v (at b k)) (sym (ap (λ o. unwrap_or o (least_of inner)) none)) (least_below inner lawful (at b k) (valid_at sort inner lawful b vb k))
      ],
      λ h. keys_told (λ k. is_below inner (at a k) (at b k)) (map_in (out-Value a)) (λ k. (each k).1 (h k)),
    )
  where
    keys_told : (p : Elem → Bool) (m : List (Elem × Value)) → ((k : Elem) → p k ≡ true) → list_all (λ e. p e.0) m ≡ true
    keys_told p [] each = refl
    keys_told p (e ∷ es) each = and_from (p e.0) (list_all (λ e. p e.0) es) (each e.0) (keys_told p es each)
orders_told (pair_of left right) lawful a b va vb =
    let pa = pair_parts (IsValueOf left) (IsValueOf right) (out-Value a) va in
    let pb = pair_parts (IsValueOf left) (IsValueOf right) (out-Value b) vb in
    Decides-and (is_below left (left_in (out-Value a)) (left_in (out-Value b))) (is_below right (right_in (out-Value a)) (right_in (out-Value b)))
    (orders_told left lawful.0 (left_in (out-Value a)) (left_in (out-Value b)) pa.0 pb.0) (orders_told right lawful.1 (right_in (out-Value a)) (right_in (out-Value b)) pa.1 pb.1)
orders_told (listed t) lawful a b va vb = bytes_eq-Decides (table_join t (item_in (out-Value a)) (item_in (out-Value b))) (item_in (out-Value b))

-- VALUES

less_told : (o : Ordering) → Decides (is_lt o) (o ≡ Less)
less_told Less = (λ h. refl, λ h. refl)
less_told Equal = (λ h. cc, λ h. cc)
less_told Greater = (λ h. cc, λ h. cc)

rises_told : (xs : List Elem) → Decides (rises xs) (IsStrictlySortedBy elem_cmp xs)
unfolding IsStrictlySortedBy
rises_told [] = (λ h. tt, λ h. refl)
rises_told (x ∷ xs) =
    Decides-and (list_all (λ y. is_lt (elem_cmp x y)) xs) (rises xs)
    (Decides-like (list_all (λ y. is_lt (elem_cmp x y)) xs) (λ h. recursion_from_All (λ y. elem_cmp x y ≡ Less) xs h) (λ h. All-from_recursion (λ y. elem_cmp x y ≡ Less) xs h)
    (Decides-by_and (λ y. is_lt (elem_cmp x y)) (λ y. elem_cmp x y ≡ Less) (list_all (λ y. is_lt (elem_cmp x y))) (λ y. less_told (elem_cmp x y)) refl (λ _ _. refl) xs))
    (rises_told xs)

set_told : (sort : Sort) (xs : List Elem) → Decides (is_set sort xs) (IsStrictlySortedBy elem_cmp xs × All (IsOfSort sort) xs)
set_told sort xs = Decides-and (rises xs) (list_all (is_of_sort sort) xs) (rises_told xs) (all_told (is_of_sort sort) xs)

set_of_told : (sort : Sort) (xs : List Elem) → Decides (is_set sort xs) (IsSetOf sort xs)
set_of_told sort xs = Decides-like (is_set sort xs) (λ h. record { rising = h.0; sorts = h.1 }) (λ h. (h.rising, h.sorts)) (set_told sort xs)

may_told : (sort : Sort) (l : ValueLayer) → Decides (is_may sort l) (IsMay sort l)
may_told sort (Value-F.Set xs) = set_of_told sort xs
may_told sort _ = never

must_told : (sort : Sort) (l : ValueLayer) → Decides (is_must sort l) (IsMust sort l)
must_told sort Value-F.Unreached = (λ h. tt, λ h. refl)
must_told sort (Value-F.Set xs) = set_of_told sort xs
must_told sort _ = never

flat_told : (sort : Sort) (l : ValueLayer) → Decides (is_flat sort l) (IsFlat sort l)
flat_told sort Value-F.Bottom = (λ h. tt, λ h. refl)
flat_told sort (Value-F.Flat x) = (λ h. h, λ h. h)
flat_told sort Value-F.Top = (λ h. tt, λ h. refl)
flat_told sort _ = never

map_told : (sort : Sort) (is_kept : Value → Bool) (P : Value → Type 0) (least : Value) → ((v : Value) → Decides (is_kept v) (P v × (v ≡ least → ⊥))) → (l : ValueLayer) → Decides (is_map sort is_kept l) (IsMapTo sort P least l)
map_told sort is_kept P least kept (Value-F.Map entries) =
    let m = pairs_of entries in
    Decides-like (is_set sort (keys_of m) && list_all is_kept (values_of m)) (λ h. record { rising = h.0.0; sorts = h.0.1; kept = h.1 }) (λ h. ((h.rising, h.sorts), h.kept))
    (Decides-and (is_set sort (keys_of m)) (list_all is_kept (values_of m)) (set_told sort (keys_of m)) (Decides-by_and is_kept (λ v. P v × (v ≡ least → ⊥)) (list_all is_kept) kept refl (λ _ _. refl) (values_of m)))
map_told sort is_kept P least kept _ = never

pair_told : (is_left is_right : Value → Bool) (P Q : Value → Type 0) → ((v : Value) → Decides (is_left v) (P v)) → ((v : Value) → Decides (is_right v) (Q v)) → (l : ValueLayer) → Decides (is_pair is_left is_right l) (IsPairOf P Q l)
pair_told is_left is_right P Q left_told right_told (Value-F.Pair left right) = Decides-and (is_left left) (is_right right) (left_told left) (right_told right)
pair_told is_left is_right P Q left_told right_told _ = never

item_told : (t : Table) (l : ValueLayer) → Decides (is_item t l) (IsListed t l)
item_told t (Value-F.Item x) = (λ h. h, λ h. h)
item_told t _ = never

-- what is below the least value is the least
least_told : (d : Domain) → IsLawful d → (v : Value) → IsValueOf d v → (is_below d v (least_of d) ≡ true → v ≡ least_of d) × (v ≡ least_of d → is_below d v (least_of d) ≡ true)
least_told d lawful v h =
    let laws = domain_laws d lawful in
    let told = orders_told d lawful v (least_of d) h laws.least_valid in (
      λ e. sym (laws.neutral v h) ∙ laws.commutative (least_of d) v laws.least_valid h ∙ (domain_order d lawful v (least_of d) h laws.least_valid).0 (told.0 e),
      λ e. told.1 (subst (λ w. IsBelowIn d w (least_of d)) (sym e) (least_below d lawful (least_of d) laws.least_valid)),
    )

pub values_told : ValuesAreTold
values_told (may sort) lawful v = may_told sort (out-Value v)
values_told (must sort) lawful v = must_told sort (out-Value v)
values_told (flat sort) lawful v = flat_told sort (out-Value v)
values_told (map_to sort inner) lawful v =
    map_told sort (λ w. is_valid inner w && not (is_below inner w (least_of inner))) (IsValueOf inner) (least_of inner)
    (λ w. (
      λ h. let parts = and_parts (is_valid inner w) (not (is_below inner w (least_of inner))) h in
          let valid = (values_told inner lawful w).0 parts.0 in
          (valid, λ e. both_ways (is_below inner w (least_of inner)) (not-true (is_below inner w (least_of inner)) parts.1) ((least_told inner lawful w valid).1 e)),
      λ h. and_from (is_valid inner w) (not (is_below inner w (least_of inner))) ((values_told inner lawful w).1 h.0)
          (not_from_false (is_below inner w (least_of inner)) (false_from_ne_true (is_below inner w (least_of inner)) (λ e. h.1 ((least_told inner lawful w h.0).0 e)))),
    )) (out-Value v)
values_told (pair_of left right) lawful v = pair_told (is_valid left) (is_valid right) (IsValueOf left) (IsValueOf right) (values_told left lawful.0) (values_told right lawful.1) (out-Value v)
values_told (listed t) lawful v = item_told t (out-Value v)
