-- What each form makes holds only elements that its parts hold.
use Rattle.std.proofs.Common.{◌≡◌, ◌↔◌, Bool, true, false, cond, not, List, [], ◌∷◌, map, Option, Some, None, sym, subst}
use Rattle.std.specs.Prelude.{All, unwrap_or}
use Rattle.std.specs.List.{filter}
use Rattle.std.specs.Map.{keys_of, values_of}
use Rattle.std.specs.Ordering.{eq_by_cmp}
use Rattle.std.specs.BTreeMap.{insert_entry}
use Rattle.std.proofs.lemmas.Bool.{true≢false}
use Rattle.std.proofs.lemmas.List.Elements.{All-nil, All-cons, All-head, All-tail, All-filter}
use Rattle.std.proofs.lemmas.Map.Views.{All-keys-insert_entry, All-values-insert_entry}
use Rattle.flow_term.specs.declared.elem.Elem.{Elem, Elem-F, out-Elem, roll-Elem, roll-out-Elem}
use Rattle.flow_term.specs.declared.elem.Elem.TheVariants as elem
use Rattle.flow_term.specs.declared.value.Value.{Value, Value-F, out-Value, out-roll-Value}
use Rattle.flow_term.specs.declared.value.Value.TheVariants as value
use Rattle.flow_term.specs.Elements.{elem_cmp}
use Rattle.flow_syntax.specs.declared.expr.SetOp.{SetOp}
use Rattle.flow_syntax.specs.declared.expr.SetOp.TheVariants as op
use Rattle.flow_syntax.specs.Types.{Sort, pair_sort}
use Rattle.value_domains.specs.Values.{ValueLayer, union_of, intersection_of, has_elem, elems_in, map_in, left_in, right_in, entries_of, value_at, value_or, joined_to, map_join, must_join, flat_join, IsOfSort, IsMay, IsMust, IsFlat, form_has_sort}
use Rattle.value_domains.specs.Domains.{Domain, may, must, flat, map_to, pair_of, listed, IsValueOf, least_of, joined_of}
use Rattle.value_domains.specs.inner.DomainLaws.{all_union, all_keys, pairs_back}
use Rattle.expr_meaning.specs.Making.{FlatHolds, Holds, MeaningHolds}
use Rattle.expr_meaning.specs.Meaning.{Meaning, an_element, a_value, first_part, second_part, first_of, second_of, pair_meaning, is_least, without_key, updated, joined_in, map_of, key_values, set_of, difference_of, on_set, on_sets, operation, chosen, bind_value}
use Rattle.expr_meaning.specs.Ranges.{Range}
use Rattle.expr_meaning.specs.Typing.{IsIn, IsFirst, IsSecond, IsPair, of_values, of_elements, IsSets, of_may, of_must, AreAlike, both_may, both_must, sort_in, IsOperand}
use Rattle.expr_meaning.proofs.Members.{keys_kept, values_kept}

module _ (Among : Sort → Elem → Type 0) where
  -- SETS

  -- what is held by a value with these elements
  pub set_holds : (d : Domain) → IsSets d → (xs : List Elem) → All (Among (sort_in d)) xs → Holds Among d (value.Set xs)
  set_holds _ (of_may s) xs h = subst (λ l. All (Among s) (elems_in l)) (sym (value.outs-Set xs)) h
  set_holds _ (of_must s) xs h = subst (λ l. All (Among s) (elems_in l)) (sym (value.outs-Set xs)) h

  unreached_holds : (d : Domain) → IsSets d → Holds Among d value.Unreached
  unreached_holds _ (of_may s) = subst (λ l. All (Among s) (elems_in l)) (sym value.outs-Unreached) (All-nil (Among s))
  unreached_holds _ (of_must s) = subst (λ l. All (Among s) (elems_in l)) (sym value.outs-Unreached) (All-nil (Among s))

  elems_held : (d : Domain) → IsSets d → (v : Value) → Holds Among d v → All (Among (sort_in d)) (elems_in (out-Value v))
  elems_held _ (of_may s) v h = h
  elems_held _ (of_must s) v h = h

  pub made_set : (s : Sort) (xs : List Elem) → All (Among s) xs → All (Among s) (set_of xs)
  made_set s xs h = all_union (Among s) [] xs (All-nil (Among s)) h

  -- an operation on sets that makes no elements
  abbrev Makes : Sort → (List Elem → List Elem → List Elem) → Type 0
  Makes s f = (a b : List Elem) → All (Among s) a → All (Among s) b → All (Among s) (f a b)

  layers_hold : (d : Domain) → IsSets d → (f : List Elem → List Elem → List Elem) → Makes (sort_in d) f → (x y : ValueLayer) → All (Among (sort_in d)) (elems_in x) → All (Among (sort_in d)) (elems_in y) → Holds Among d (on_sets f x y)
  layers_hold d sets f makes Value-F.Unreached y h k = unreached_holds d sets
  layers_hold d sets f makes x Value-F.Unreached h k = unreached_holds d sets
  layers_hold d sets f makes x y h k = set_holds d sets (f (elems_in x) (elems_in y)) (makes (elems_in x) (elems_in y) h k)

  -- COMPREHENSIONS

  made_each : (s t : Sort) (f : Elem → Elem) (c : Elem → Bool) → ((x : Elem) → IsOfSort s x → Among s x → Among t (f x)) → (xs : List Elem) → All (IsOfSort s) xs → All (Among s) xs → All (Among t) (map f (filter c xs))
  made_each s t f c each [] sorts h = All-nil (Among t)
  made_each s t f c each (x ∷ xs) sorts h =
      let rest = made_each s t f c each xs (All-tail (IsOfSort s) x xs sorts) (All-tail (Among s) x xs h) in
      elim (c x) as (λ b. All (Among t) (map f (cond b (x ∷ filter c xs) (filter c xs)))) [
        | true ↦ All-cons (Among t) (f x) (map f (filter c xs)) (each x (All-head (IsOfSort s) x xs sorts) (All-head (Among s) x xs h)) rest
        | false ↦ rest
      ]

  may_made : (d : Domain) → IsSets d → (s : Sort) (f : Elem → Elem) (c : Elem → Bool) → ((x : Elem) → IsOfSort s x → Among s x → Among (sort_in d) (f x)) → (l : ValueLayer) → IsMay s l → All (Among s) (elems_in l) → Holds Among d (on_set (chosen f c) l)
  may_made d sets s f c each (Value-F.Set xs) valid h = set_holds d sets (chosen f c xs) (made_set (sort_in d) (map f (filter c xs)) (made_each s (sort_in d) f c each xs valid.sorts h))
  may_made d sets s f c each _ valid h = absurd valid

  must_made : (d : Domain) → IsSets d → (s : Sort) (f : Elem → Elem) (c : Elem → Bool) → ((x : Elem) → IsOfSort s x → Among s x → Among (sort_in d) (f x)) → (l : ValueLayer) → IsMust s l → All (Among s) (elems_in l) → Holds Among d (on_set (chosen f c) l)
  must_made d sets s f c each Value-F.Unreached valid h = unreached_holds d sets
  must_made d sets s f c each (Value-F.Set xs) valid h = set_holds d sets (chosen f c xs) (made_set (sort_in d) (map f (filter c xs)) (made_each s (sort_in d) f c each xs valid.sorts h))
  must_made d sets s f c each _ valid h = absurd valid

  pub chosen_holds : (d u : Domain) → AreAlike d u → (f : Elem → Elem) (c : Elem → Bool) → ((x : Elem) → IsOfSort (sort_in u) x → Among (sort_in u) x → Among (sort_in d) (f x)) → (v : Value) → IsValueOf u v → Holds Among u v → Holds Among d (on_set (chosen f c) (out-Value v))
  chosen_holds _ _ (both_may s t) f c each v valid h = may_made (may s) (of_may s) t f c each (out-Value v) valid h
  chosen_holds _ _ (both_must s t) f c each v valid h = must_made (must s) (of_must s) t f c each (out-Value v) valid h

  -- JOINS

  must_joins : (s : Sort) (x y : ValueLayer) → All (Among s) (elems_in x) → All (Among s) (elems_in y) → All (Among s) (elems_in (must_join x y))
  must_joins s Value-F.Unreached y h k = k
  must_joins s (Value-F.Set xs) (Value-F.Set ys) h k = All-filter (λ x. has_elem ys x) (Among s) xs h
  must_joins s (Value-F.Set xs) _ h k = h
  must_joins s _ y h k = All-nil (Among s)

  same_or_top : (s : Sort) (b : Bool) (x : Elem) → Among s x → FlatHolds (Among s) (cond b (Value-F.Flat x) Value-F.Top)
  same_or_top s true x h = h
  same_or_top s false x h = tt

  flat_joins : (s : Sort) (x y : ValueLayer) → FlatHolds (Among s) x → FlatHolds (Among s) y → FlatHolds (Among s) (flat_join x y)
  flat_joins s Value-F.Bottom y h k = k
  flat_joins s (Value-F.Flat x) Value-F.Bottom h k = h
  flat_joins s (Value-F.Flat x) (Value-F.Flat y) h k = same_or_top s (eq_by_cmp elem_cmp x y) x h
  flat_joins s (Value-F.Flat x) _ h k = tt
  flat_joins s _ Value-F.Bottom h k = tt
  flat_joins s _ _ h k = tt

  -- an optional value
  abbrev IfSome : (Value → Type 0) → Option Value → Type 0
  IfSome P (Some v) = P v
  IfSome P None = Unit {0}

  held_at : (P : Value → Type 0) (m : List (Elem × Value)) (k : Elem) → All P (values_of m) → IfSome P (value_at m k)
  held_at P [] k h = tt
  held_at P (e ∷ es) k h =
      let rest = held_at P es k (All-tail P e.1 (values_of es) h) in
      elim (eq_by_cmp elem_cmp k e.0) as (λ b. IfSome P (cond b (Some e.1) (value_at es k))) [ true ↦ All-head P e.1 (values_of es) h | false ↦ rest ]

  to_there : (P : Value → Type 0) (join : Value → Value → Value) → ((v w : Value) → P v → P w → P (join v w)) → (o : Option Value) (w : Value) → IfSome P o → P w → P (joined_to join o w)
  to_there P join joins None w h k = k
  to_there P join joins (Some v) w h k = joins v w h k

  maps_join : (P : Value → Type 0) (join : Value → Value → Value) → ((v w : Value) → P v → P w → P (join v w)) → (a b : List (Elem × Value)) → All P (values_of a) → All P (values_of b) → All P (values_of (map_join join a b))
  maps_join P join joins a [] h k = h
  maps_join P join joins a (e ∷ es) h k =
      maps_join P join joins (insert_entry elem_cmp a e.0 (joined_to join (value_at a e.0) e.1)) es
      (All-values-insert_entry elem_cmp e.0 (joined_to join (value_at a e.0) e.1) P a h (to_there P join joins (value_at a e.0) e.1 (held_at P a e.0 h) (All-head P e.1 (values_of es) k))) (All-tail P e.1 (values_of es) k)

  -- what a map holds
  abbrev EntriesHold : Sort → Domain → List (Elem × Value) → Type 0
  EntriesHold s d m = All (Among s) (keys_of m) × All (Holds Among d) (values_of m)

  pub map_holds : (s : Sort) (d : Domain) (m : List (Elem × Value)) → EntriesHold s d m → Holds Among (map_to s d) (value.Map (entries_of m))
  map_holds s d m h = subst (λ l. EntriesHold s d (map_in l)) (sym (value.outs-Map (entries_of m))) (subst (EntriesHold s d) (sym (pairs_back m)) h)

  pair_holds : (a b : Domain) (v w : Value) → Holds Among a v → Holds Among b w → Holds Among (pair_of a b) (value.Pair v w)
  pair_holds a b v w h k = subst (λ l. Holds Among a (left_in l) × Holds Among b (right_in l)) (sym (value.outs-Pair v w)) (h, k)

  pub join_holds : (d : Domain) (v w : Value) → Holds Among d v → Holds Among d w → Holds Among d (joined_of d v w)
  join_holds (may s) v w h k = set_holds (may s) (of_may s) (union_of (elems_in (out-Value v)) (elems_in (out-Value w))) (all_union (Among s) (elems_in (out-Value v)) (elems_in (out-Value w)) h k)
  join_holds (must s) v w h k = subst (λ l. All (Among s) (elems_in l)) (sym (out-roll-Value (must_join (out-Value v) (out-Value w)))) (must_joins s (out-Value v) (out-Value w) h k)
  join_holds (flat s) v w h k = subst (FlatHolds (Among s)) (sym (out-roll-Value (flat_join (out-Value v) (out-Value w)))) (flat_joins s (out-Value v) (out-Value w) h k)
  join_holds (map_to s d) v w h k =
      map_holds s d (map_join (joined_of d) (map_in (out-Value v)) (map_in (out-Value w)))
      (all_keys (Among s) (joined_of d) (map_in (out-Value v)) (map_in (out-Value w)) h.0 k.0, maps_join (Holds Among d) (joined_of d) (λ x y. join_holds d x y) (map_in (out-Value v)) (map_in (out-Value w)) h.1 k.1)
  join_holds (pair_of a b) v w h k =
      pair_holds a b (joined_of a (left_in (out-Value v)) (left_in (out-Value w))) (joined_of b (right_in (out-Value v)) (right_in (out-Value w)))
      (join_holds a (left_in (out-Value v)) (left_in (out-Value w)) h.0 k.0) (join_holds b (right_in (out-Value v)) (right_in (out-Value w)) h.1 k.1)
  join_holds (listed t) v w h k = tt

  pub operation_holds : (o : SetOp) (d : Domain) → IsOperand o d → (v w : Value) → Holds Among d v → Holds Among d w → Holds Among d (operation o d v w)
  operation_holds op.Join d operand v w h k = join_holds d v w h k
  operation_holds op.Union d sets v w h k = layers_hold d sets union_of (all_union (Among (sort_in d))) (out-Value v) (out-Value w) (elems_held d sets v h) (elems_held d sets w k)
  operation_holds op.Inter d sets v w h k = layers_hold d sets intersection_of (λ a b ha hb. All-filter (λ x. has_elem b x) (Among (sort_in d)) a ha) (out-Value v) (out-Value w) (elems_held d sets v h) (elems_held d sets w k)
  operation_holds op.Minus d sets v w h k = layers_hold d sets difference_of (λ a b ha hb. All-filter (λ x. not (has_elem b x)) (Among (sort_in d)) a ha) (out-Value v) (out-Value w) (elems_held d sets v h) (elems_held d sets w k)

  -- THE LEAST VALUE

  pub least_holds : (d : Domain) → Holds Among d (least_of d)
  least_holds (may s) = set_holds (may s) (of_may s) [] (All-nil (Among s))
  least_holds (must s) = unreached_holds (must s) (of_must s)
  least_holds (flat s) = subst (FlatHolds (Among s)) (sym value.outs-Bottom) tt
  least_holds (map_to s d) = map_holds s d [] (All-nil (Among s), All-nil (Holds Among d))
  least_holds (pair_of a b) = pair_holds a b (least_of a) (least_of b) (least_holds a) (least_holds b)
  least_holds (listed t) = tt

  pub unreached_is : (s : Sort) → Holds Among (must s) value.Unreached
  unreached_is s = unreached_holds (must s) (of_must s)

  pub top_holds : (s : Sort) → Holds Among (flat s) value.Top
  top_holds s = subst (FlatHolds (Among s)) (sym value.outs-Top) tt

  pub flat_holds : (s : Sort) (e : Elem) → Among s e → Holds Among (flat s) (value.Flat e)
  flat_holds s e h = subst (FlatHolds (Among s)) (sym (value.outs-Flat e)) h

  bind_layer : (s t : Sort) (f : Elem → Value) → ((x : Elem) → IsOfSort s x → Among s x → Holds Among (flat t) (f x)) → (l : ValueLayer) → IsFlat s l → FlatHolds (Among s) l → Holds Among (flat t) (bind_value f l)
  bind_layer s t f each (Value-F.Flat e) valid h = each e valid h
  bind_layer s t f each Value-F.Bottom valid h = subst (FlatHolds (Among t)) (sym (out-roll-Value Value-F.Bottom)) tt
  bind_layer s t f each Value-F.Top valid h = subst (FlatHolds (Among t)) (sym (out-roll-Value Value-F.Top)) tt
  bind_layer s t f each _ valid h = absurd valid

  pub bind_holds : (s t : Sort) (f : Elem → Value) → ((x : Elem) → IsOfSort s x → Among s x → Holds Among (flat t) (f x)) → (v : Value) → IsValueOf (flat s) v → Holds Among (flat s) v → Holds Among (flat t) (bind_value f (out-Value v))
  bind_holds s t f each v valid h = bind_layer s t f each (out-Value v) valid h

  -- MAPS

  pub look_holds : (d : Domain) (m : List (Elem × Value)) (k : Elem) → All (Holds Among d) (values_of m) → Holds Among d (value_or (least_of d) m k)
  look_holds d m k h = by (value_at m k) (held_at (Holds Among d) m k h)
    where
      by : (o : Option Value) → IfSome (Holds Among d) o → Holds Among d (unwrap_or o (least_of d))
      by (Some v) h = h
      by None h = least_holds d

  without_holds : (s : Sort) (d : Domain) (m : List (Elem × Value)) (k : Elem) → EntriesHold s d m → EntriesHold s d (without_key m k)
  without_holds s d m k h = (
    subst (All (Among s)) (sym (keys_kept (λ x. not (eq_by_cmp elem_cmp x k)) m)) (All-filter (λ x. not (eq_by_cmp elem_cmp x k)) (Among s) (keys_of m) h.0),
    values_kept (Holds Among d) (λ e. not (eq_by_cmp elem_cmp e.0 k)) m h.1,
  )

  entry_holds : (s : Sort) (d : Domain) (m : List (Elem × Value)) (k : Elem) (v : Value) → EntriesHold s d m → Among s k → Holds Among d v → EntriesHold s d (insert_entry elem_cmp m k v)
  entry_holds s d m k v h among held = (All-keys-insert_entry elem_cmp k v (Among s) m h.0 among, All-values-insert_entry elem_cmp k v (Holds Among d) m h.1 held)

  pub update_holds : (s : Sort) (d : Domain) (m : List (Elem × Value)) (k : Elem) (v : Value) → EntriesHold s d m → Among s k → Holds Among d v → EntriesHold s d (updated d m k v)
  update_holds s d m k v h among held = elim (is_least d v) as (λ b. EntriesHold s d (cond b (without_key m k) (insert_entry elem_cmp m k v))) [ true ↦ without_holds s d m k h | false ↦ entry_holds s d m k v h among held ]

  joined_holds : (s : Sort) (d : Domain) (m : List (Elem × Value)) (k : Elem) (v : Value) → EntriesHold s d m → Among s k → Holds Among d v → EntriesHold s d (joined_in d m k v)
  joined_holds s d m k v h among held =
      elim (is_least d v) as (λ b. EntriesHold s d (cond b m (insert_entry elem_cmp m k (joined_to (joined_of d) (value_at m k) v)))) [
        | true ↦ h
        | false ↦ entry_holds s d m k (joined_to (joined_of d) (value_at m k) v) h among (to_there (Holds Among d) (joined_of d) (λ x y. join_holds d x y) (value_at m k) v (held_at (Holds Among d) m k h.1) held)
      ]

  pub map_of_holds : (s : Sort) (d : Domain) (ks : List Elem) (vs : List Value) (m : List (Elem × Value)) → EntriesHold s d m → All (Among s) ks → All (Holds Among d) vs → EntriesHold s d (map_of d m (key_values ks vs))
  map_of_holds s d [] vs m h hk hv = h
  map_of_holds s d (k ∷ ks) [] m h hk hv = h
  map_of_holds s d (k ∷ ks) (v ∷ vs) m h hk hv =
      map_of_holds s d ks vs (joined_in d m k v) (joined_holds s d m k v h (All-head (Among s) k ks hk) (All-head (Holds Among d) v vs hv)) (All-tail (Among s) k ks hk) (All-tail (Holds Among d) v vs hv)

  pub nothing_holds : (s : Sort) (d : Domain) → EntriesHold s d []
  nothing_holds s d = (All-nil (Among s), All-nil (Holds Among d))

  -- PAIRS

  module _ (pairs : (s t : Sort) (a b : Elem) → Among (pair_sort s t) (elem.Pair a b) ↔ (Among s a × Among t b)) where
    parts_layer : (s t : Sort) (x : Elem-F Elem) → form_has_sort (pair_sort s t) x ≡ true → Among (pair_sort s t) (roll-Elem x) → Among s (first_part x) × Among t (second_part x)
    parts_layer s t (Elem-F.Pair a b) sorted h = (pairs s t a b).0 (subst (Among (pair_sort s t)) (elem.rolls-Pair a b) h)
    parts_layer s t _ sorted h = absurd (true≢false (sym sorted))

    pair_parts : (s t : Sort) (e : Elem) → IsOfSort (pair_sort s t) e → Among (pair_sort s t) e → Among s (first_part (out-Elem e)) × Among t (second_part (out-Elem e))
    pair_parts s t e sorted h = parts_layer s t (out-Elem e) sorted (subst (Among (pair_sort s t)) (sym (roll-out-Elem e)) h)

    pub first_holds : (own r : Range) → IsFirst own r → (m : Meaning) → IsIn r m → MeaningHolds Among r m → MeaningHolds Among own (first_of m)
    first_holds _ _ (of_values l r) (a_value v) valid h = h.0
    first_holds _ _ (of_values l r) _ valid h = absurd valid
    first_holds _ _ (of_elements s t) (an_element e) valid h = (pair_parts s t e valid h).0
    first_holds _ _ (of_elements s t) _ valid h = absurd valid

    pub second_holds : (own r : Range) → IsSecond own r → (m : Meaning) → IsIn r m → MeaningHolds Among r m → MeaningHolds Among own (second_of m)
    second_holds _ _ (of_values l r) (a_value v) valid h = h.1
    second_holds _ _ (of_values l r) _ valid h = absurd valid
    second_holds _ _ (of_elements s t) (an_element e) valid h = (pair_parts s t e valid h).1
    second_holds _ _ (of_elements s t) _ valid h = absurd valid

    pub both_hold : (own r q : Range) → IsPair own r q → (m n : Meaning) → IsIn r m → IsIn q n → MeaningHolds Among r m → MeaningHolds Among q n → MeaningHolds Among own (pair_meaning m n)
    both_hold _ _ _ (of_values l r) (a_value v) (a_value w) hv hw h k = pair_holds l r v w h k
    both_hold _ _ _ (of_values l r) (a_value v) _ hv hw h k = absurd hw
    both_hold _ _ _ (of_values l r) _ n hv hw h k = absurd hv
    both_hold _ _ _ (of_elements s t) (an_element a) (an_element b) hv hw h k = (pairs s t a b).1 (h, k)
    both_hold _ _ _ (of_elements s t) (an_element a) _ hv hw h k = absurd hw
    both_hold _ _ _ (of_elements s t) _ n hv hw h k = absurd hv
