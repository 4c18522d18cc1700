-- What each form makes is a value of its domain.
use Rattle.std.proofs.Common.{◌≡◌, Bool, true, false, cond, not, List, [], ◌∷◌, map, Option, Some, None, refl, sym, ap, subst, ◌∙◌}
use Rattle.std.specs.Prelude.{All, unwrap_or, bytes_eq}
use Rattle.std.specs.List.{filter}
use Rattle.std.specs.List.Sorted.{IsStrictlySortedBy}
use Rattle.std.specs.Map.{keys_of, values_of}
use Rattle.std.specs.Ordering.{eq_by_cmp}
use Rattle.std.specs.BTreeMap.{insert_entry}
use Rattle.std.proofs.lemmas.Bool.{true≢false, and_parts, and_from}
use Rattle.std.proofs.lemmas.List.Elements.{All-nil, All-cons, All-head, All-tail, All-filter}
use Rattle.std.proofs.lemmas.List.Kept.{IsStrictlySortedBy-filter}
use Rattle.std.proofs.lemmas.Map.Views.{All-keys-insert_entry, All-values-insert_entry}
use Rattle.std.proofs.lemmas.Slice.Eq.{bytes_eq-Decides}
use Rattle.lattice_sets.specs.MapLaws.{rising_entry, IsKept, option_join, kept_join, kept_value}
use Rattle.flow_term.specs.declared.elem.Elem.{Elem, Elem-F, out-Elem}
use Rattle.flow_term.specs.declared.elem.Elem.TheVariants as elem
use Rattle.flow_term.specs.declared.value.Value.{Value, Value-F, out-Value, out-roll-Value}
use Rattle.flow_term.specs.declared.value.Value.TheVariants as value
use Rattle.flow_term.specs.Elements.{elem_cmp}
use Rattle.flow_syntax.specs.Types.{Sort, pair_sort}
use Rattle.value_domains.specs.Values.{left_in, right_in, IsPairOf, is_of_sort, form_has_sort, map_in, value_at, value_or, joined_to, entries_of, IsMapOf, IsMapTo, ValueLayer, union_of, intersection_of, has_elem, elems_in, IsOfSort, IsSetOf, IsMay, IsMust, IsFlat}
use Rattle.lattice_sets.specs.SetLaws.{rising_union, rising_nothing}
use Rattle.value_domains.specs.inner.Elements.{elem_total, elem_exact}
use Rattle.value_domains.specs.inner.DomainLaws.{all_union, domain_laws, pairs_back}
use Rattle.value_domains.specs.Lawful.{IsLawful}
use Rattle.expr_meaning.specs.Ranges.{Range}
use Rattle.value_domains.specs.Domains.{Domain, may, must, flat, map_to, pair_of, listed, item_in, least_of, joined_of, IsValueOf}
use Rattle.expr_meaning.specs.Meaning.{Meaning, an_element, a_value, first_part, second_part, first_of, second_of, pair_meaning, is_least, is_empty, is_unreached, is_bottom, without_key, updated, joined_in, map_of, key_values, set_of, difference_of, on_set, on_sets, chosen, bind_value}
use Rattle.expr_meaning.specs.Typing.{IsIn, IsFirst, IsSecond, IsPair, of_values, of_elements, IsSets, of_may, of_must, AreAlike, both_may, both_must, sort_in}

-- SETS

pub set_valid : (s : Sort) (xs : List Elem) → All (IsOfSort s) xs → IsSetOf s (set_of xs)
set_valid s xs h = record { rising = rising_union elem_cmp elem_total [] xs (rising_nothing elem_cmp elem_total); sorts = all_union (IsOfSort s) [] xs (All-nil (IsOfSort s)) h }

pub set_value : (d : Domain) → IsSets d → (xs : List Elem) → IsSetOf (sort_in d) xs → IsValueOf d (value.Set xs)
set_value _ (of_may s) xs h = subst (IsMay s) (sym (value.outs-Set xs)) h
set_value _ (of_must s) xs h = subst (IsMust s) (sym (value.outs-Set xs)) h

pub unreached_value : (s : Sort) → IsValueOf (must s) value.Unreached
unreached_value s = subst (IsMust s) (sym value.outs-Unreached) tt

-- an operation that makes sets of sets
abbrev pub Keeps : Sort → (List Elem → List Elem → List Elem) → Type 0
Keeps s f = (a b : List Elem) → IsSetOf s a → IsSetOf s b → IsSetOf s (f a b)

pub union_keeps : (s : Sort) → Keeps s union_of
union_keeps s a b h k = record { rising = rising_union elem_cmp elem_total a b h.rising; sorts = all_union (IsOfSort s) a b h.sorts k.sorts }

pub intersection_keeps : (s : Sort) → Keeps s intersection_of
intersection_keeps s a b h k = record { rising = IsStrictlySortedBy-filter elem_cmp (λ x. has_elem b x) a h.rising; sorts = All-filter (λ x. has_elem b x) (IsOfSort s) a h.sorts }

pub difference_keeps : (s : Sort) → Keeps s difference_of
difference_keeps s a b h k = record { rising = IsStrictlySortedBy-filter elem_cmp (λ x. not (has_elem b x)) a h.rising; sorts = All-filter (λ x. not (has_elem b x)) (IsOfSort s) a h.sorts }

may_operation : (s : Sort) (f : List Elem → List Elem → List Elem) → Keeps s f → (x y : ValueLayer) → IsMay s x → IsMay s y → IsValueOf (may s) (on_sets f x y)
may_operation s f keeps (Value-F.Set a) (Value-F.Set b) h k = set_value (may s) (of_may s) (f a b) (keeps a b h k)
may_operation s f keeps (Value-F.Set a) _ h k = absurd k
may_operation s f keeps _ y h k = absurd h

must_operation : (s : Sort) (f : List Elem → List Elem → List Elem) → Keeps s f → (x y : ValueLayer) → IsMust s x → IsMust s y → IsValueOf (must s) (on_sets f x y)
must_operation s f keeps Value-F.Unreached y h k = unreached_value s
must_operation s f keeps (Value-F.Set a) Value-F.Unreached h k = unreached_value s
must_operation s f keeps (Value-F.Set a) (Value-F.Set b) h k = set_value (must s) (of_must s) (f a b) (keeps a b h k)
must_operation s f keeps (Value-F.Set a) _ h k = absurd k
must_operation s f keeps _ y h k = absurd h

pub sets_value : (d : Domain) → IsSets d → (f : List Elem → List Elem → List Elem) → ((s : Sort) → Keeps s f) → (v w : Value) → IsValueOf d v → IsValueOf d w → IsValueOf d (on_sets f (out-Value v) (out-Value w))
sets_value _ (of_may s) f keeps v w h k = may_operation s f (keeps s) (out-Value v) (out-Value w) h k
sets_value _ (of_must s) f keeps v w h k = must_operation s f (keeps s) (out-Value v) (out-Value w) h k

-- COMPREHENSIONS

made_sorts : (s t : Sort) (f : Elem → Elem) (c : Elem → Bool) → ((x : Elem) → IsOfSort t x → IsOfSort s (f x)) → (xs : List Elem) → All (IsOfSort t) xs → All (IsOfSort s) (map f (filter c xs))
made_sorts s t f c each [] h = All-nil (IsOfSort s)
made_sorts s t f c each (x ∷ xs) h =
    let rest = made_sorts s t f c each xs (All-tail (IsOfSort t) x xs h) in
    elim (c x) as (λ b. All (IsOfSort s) (map f (cond b (x ∷ filter c xs) (filter c xs)))) [
      | true ↦ All-cons (IsOfSort s) (f x) (map f (filter c xs)) (each x (All-head (IsOfSort t) x xs h)) rest
      | false ↦ rest
    ]

may_chosen : (s t : Sort) (f : Elem → Elem) (c : Elem → Bool) → ((x : Elem) → IsOfSort t x → IsOfSort s (f x)) → (l : ValueLayer) → IsMay t l → IsValueOf (may s) (on_set (chosen f c) l)
may_chosen s t f c each (Value-F.Set xs) h = set_value (may s) (of_may s) (chosen f c xs) (set_valid s (map f (filter c xs)) (made_sorts s t f c each xs h.sorts))
may_chosen s t f c each _ h = absurd h

must_chosen : (s t : Sort) (f : Elem → Elem) (c : Elem → Bool) → ((x : Elem) → IsOfSort t x → IsOfSort s (f x)) → (l : ValueLayer) → IsMust t l → IsValueOf (must s) (on_set (chosen f c) l)
must_chosen s t f c each Value-F.Unreached h = unreached_value s
must_chosen s t f c each (Value-F.Set xs) h = set_value (must s) (of_must s) (chosen f c xs) (set_valid s (map f (filter c xs)) (made_sorts s t f c each xs h.sorts))
must_chosen s t f c each _ h = absurd h

pub chosen_value : (d u : Domain) → AreAlike d u → (f : Elem → Elem) (c : Elem → Bool) → ((x : Elem) → IsOfSort (sort_in u) x → IsOfSort (sort_in d) (f x)) → (v : Value) → IsValueOf u v → IsValueOf d (on_set (chosen f c) (out-Value v))
chosen_value _ _ (both_may s t) f c each v h = may_chosen s t f c each (out-Value v) h
chosen_value _ _ (both_must s t) f c each v h = must_chosen s t f c each (out-Value v) h

-- FLAT VALUES

pub flat_value : (s : Sort) (e : Elem) → IsOfSort s e → IsValueOf (flat s) (value.Flat e)
flat_value s e h = subst (IsFlat s) (sym (value.outs-Flat e)) h

pub top_value : (s : Sort) → IsValueOf (flat s) value.Top
top_value s = subst (IsFlat s) (sym value.outs-Top) tt

bound_layer : (s t : Sort) (f : Elem → Value) → ((x : Elem) → IsOfSort s x → IsValueOf (flat t) (f x)) → (l : ValueLayer) → IsFlat s l → IsValueOf (flat t) (bind_value f l)
bound_layer s t f each (Value-F.Flat e) h = each e h
bound_layer s t f each Value-F.Bottom h = subst (IsFlat t) (sym (out-roll-Value Value-F.Bottom)) tt
bound_layer s t f each Value-F.Top h = subst (IsFlat t) (sym (out-roll-Value Value-F.Top)) tt
bound_layer s t f each _ h = absurd h

pub bound_value : (s t : Sort) (f : Elem → Value) → ((x : Elem) → IsOfSort s x → IsValueOf (flat t) (f x)) → (v : Value) → IsValueOf (flat s) v → IsValueOf (flat t) (bind_value f (out-Value v))
bound_value s t f each v h = bound_layer s t f each (out-Value v) h

-- MAPS

abbrev pub IsMapIn : Sort → Domain → List (Elem × Value) → Type 0
IsMapIn s d m = IsMapOf s (IsValueOf d) (least_of d) m

pub map_in_valid : (s : Sort) (d : Domain) (l : ValueLayer) → IsMapTo s (IsValueOf d) (least_of d) l → IsMapIn s d (map_in l)
map_in_valid s d (Value-F.Map es) h = h
map_in_valid s d _ h = absurd h

pub map_value_valid : (s : Sort) (d : Domain) (m : List (Elem × Value)) → IsMapIn s d m → IsValueOf (map_to s d) (value.Map (entries_of m))
map_value_valid s d m h = subst (IsMapTo s (IsValueOf d) (least_of d)) (sym (value.outs-Map (entries_of m))) (subst (IsMapIn s d) (sym (pairs_back m)) h)

pub value_or_valid : (s : Sort) (d : Domain) → IsValueOf d (least_of d) → (m : List (Elem × Value)) → All (λ v. IsValueOf d v × (v ≡ least_of d → ⊥)) (values_of m) → (q : Elem) → IsValueOf d (value_or (least_of d) m q)
value_or_valid s d least [] h q = least
value_or_valid s d least (e ∷ es) h q =
    elim (eq_by_cmp elem_cmp q e.0) as (λ b. IsValueOf d (unwrap_or (cond b (Some e.1) (value_at es q)) (least_of d))) [
      | true ↦ (All-head (λ v. IsValueOf d v × (v ≡ least_of d → ⊥)) e.1 (values_of es) h).0
      | false ↦ value_or_valid s d least es (All-tail (λ v. IsValueOf d v × (v ≡ least_of d → ⊥)) e.1 (values_of es) h) q
    ]

-- the least value is told to be the least
pub least_is : (d : Domain) → is_least d (least_of d) ≡ true
least_is (may s) = ap (λ l. is_empty (elems_in l)) (value.outs-Set [])
least_is (must s) = ap is_unreached value.outs-Unreached
least_is (flat s) = ap is_bottom value.outs-Bottom
least_is (map_to s d) = ap (λ l. is_empty (map_in l)) (value.outs-Map [])
least_is (pair_of l r) =
    and_from _ _ (ap (λ x. is_least l (left_in x)) (value.outs-Pair (least_of l) (least_of r)) ∙ least_is l) (ap (λ x. is_least r (right_in x)) (value.outs-Pair (least_of l) (least_of r)) ∙ least_is r)
least_is (listed t) = ap (λ x. bytes_eq (item_in x) t.bottom) (value.outs-Item t.bottom) ∙ (bytes_eq-Decides t.bottom t.bottom).1 refl

not_least : (d : Domain) (v : Value) → is_least d v ≡ false → v ≡ least_of d → ⊥
not_least d v h e = true≢false (sym (ap (is_least d) e ∙ least_is d) ∙ h)

pub keys_kept : (p : Elem → Bool) (m : List (Elem × Value)) → keys_of (filter (λ e. p e.0) m) ≡ filter p (keys_of m)
keys_kept p [] = refl
keys_kept p (e ∷ es) = elim (p e.0) as (λ b. keys_of (cond b (e ∷ filter (λ e. p e.0) es) (filter (λ e. p e.0) es)) ≡ cond b (e.0 ∷ filter p (keys_of es)) (filter p (keys_of es))) [
  | true ↦ ap (λ (ks : List Elem). e.0 ∷ ks) (keys_kept p es)
  | false ↦ keys_kept p es
]

pub values_kept : (P : Value → Type 0) (p : Elem × Value → Bool) (m : List (Elem × Value)) → All P (values_of m) → All P (values_of (filter p m))
values_kept P p [] h = h
values_kept P p (e ∷ es) h =
    let rest = values_kept P p es (All-tail P e.1 (values_of es) h) in
    elim (p e) as (λ b. All P (values_of (cond b (e ∷ filter p es) (filter p es)))) [ true ↦ All-cons P e.1 (values_of (filter p es)) (All-head P e.1 (values_of es) h) rest | false ↦ rest ]

without_valid : (s : Sort) (d : Domain) (m : List (Elem × Value)) (k : Elem) → IsMapIn s d m → IsMapIn s d (without_key m k)
without_valid s d m k h = record {
  rising = subst (IsStrictlySortedBy elem_cmp) (sym (keys_kept (λ x. not (eq_by_cmp elem_cmp x k)) m)) (IsStrictlySortedBy-filter elem_cmp (λ x. not (eq_by_cmp elem_cmp x k)) (keys_of m) h.rising);
  sorts = subst (All (IsOfSort s)) (sym (keys_kept (λ x. not (eq_by_cmp elem_cmp x k)) m)) (All-filter (λ x. not (eq_by_cmp elem_cmp x k)) (IsOfSort s) (keys_of m) h.sorts);
  kept = values_kept (λ v. IsValueOf d v × (v ≡ least_of d → ⊥)) (λ e. not (eq_by_cmp elem_cmp e.0 k)) m h.kept;
}

entry_valid : (s : Sort) (d : Domain) (m : List (Elem × Value)) (k : Elem) (v : Value) → IsMapIn s d m → IsOfSort s k → IsValueOf d v → (v ≡ least_of d → ⊥) → IsMapIn s d (insert_entry elem_cmp m k v)
entry_valid s d m k v h sorted valid other = record {
  rising = rising_entry elem_cmp elem_total elem_exact k v m h.rising;
  sorts = All-keys-insert_entry elem_cmp k v (IsOfSort s) m h.sorts sorted;
  kept = All-values-insert_entry elem_cmp k v (λ v. IsValueOf d v × (v ≡ least_of d → ⊥)) m h.kept (valid, other);
}

pub updated_valid : (s : Sort) (d : Domain) (m : List (Elem × Value)) (k : Elem) (v : Value) → IsMapIn s d m → IsOfSort s k → IsValueOf d v → IsMapIn s d (updated d m k v)
updated_valid s d m k v h sorted valid = by (is_least d v) refl
  where
    by : (b : Bool) → is_least d v ≡ b → IsMapIn s d (cond b (without_key m k) (insert_entry elem_cmp m k v))
    by true e = without_valid s d m k h
    by false e = entry_valid s d m k v h sorted valid (not_least d v e)

-- PAIRS

first_layer : (P Q : Value → Type 0) (l : ValueLayer) → IsPairOf P Q l → P (left_in l) × Q (right_in l)
first_layer P Q (Value-F.Pair a b) h = h
first_layer P Q _ h = absurd h

pair_layer : (s t : Sort) (x : Elem-F Elem) → form_has_sort (pair_sort s t) x ≡ true → IsOfSort s (first_part x) × IsOfSort t (second_part x)
pair_layer s t (Elem-F.Pair a b) h = and_parts (is_of_sort s a) (is_of_sort t b) h
pair_layer s t _ h = absurd (true≢false (sym h))

pub first_sound : (own r : Range) → IsFirst own r → (m : Meaning) → IsIn r m → IsIn own (first_of m)
first_sound _ _ (of_values l r) (a_value v) h = (first_layer (IsValueOf l) (IsValueOf r) (out-Value v) h).0
first_sound _ _ (of_values l r) _ h = absurd h
first_sound _ _ (of_elements s t) (an_element e) h = (pair_layer s t (out-Elem e) h).0
first_sound _ _ (of_elements s t) _ h = absurd h

pub second_sound : (own r : Range) → IsSecond own r → (m : Meaning) → IsIn r m → IsIn own (second_of m)
second_sound _ _ (of_values l r) (a_value v) h = (first_layer (IsValueOf l) (IsValueOf r) (out-Value v) h).1
second_sound _ _ (of_values l r) _ h = absurd h
second_sound _ _ (of_elements s t) (an_element e) h = (pair_layer s t (out-Elem e) h).1
second_sound _ _ (of_elements s t) _ h = absurd h

pub pair_sound : (own r q : Range) → IsPair own r q → (m n : Meaning) → IsIn r m → IsIn q n → IsIn own (pair_meaning m n)
pair_sound _ _ _ (of_values l r) (a_value v) (a_value w) h k = subst (IsPairOf (IsValueOf l) (IsValueOf r)) (sym (value.outs-Pair v w)) (h, k)
pair_sound _ _ _ (of_values l r) (a_value v) _ h k = absurd k
pair_sound _ _ _ (of_values l r) _ n h k = absurd h
pair_sound _ _ _ (of_elements s t) (an_element a) (an_element b) h k = ap (form_has_sort (pair_sort s t)) (elem.outs-Pair a b) ∙ and_from (is_of_sort s a) (is_of_sort t b) h k
pair_sound _ _ _ (of_elements s t) (an_element a) _ h k = absurd k
pair_sound _ _ _ (of_elements s t) _ n h k = absurd h

-- MAPS OF KEYS AND VALUES

joined_option : (join : Value → Value → Value) (o : Option Value) (w : Value) → Some (joined_to join o w) ≡ option_join join o (Some w)
joined_option join None w = refl
joined_option join (Some v) w = refl

joined_valid : (s : Sort) (d : Domain) → IsLawful d → (m : List (Elem × Value)) (k : Elem) (v : Value) → IsMapIn s d m → IsOfSort s k → IsValueOf d v → IsMapIn s d (joined_in d m k v)
joined_valid s d lawful m k v h sorted valid = by (is_least d v) refl
  where
    by : (b : Bool) → is_least d v ≡ b → IsMapIn s d (cond b m (insert_entry elem_cmp m k (joined_to (joined_of d) (value_at m k) v)))
    by true e = h
    by false e =
        let laws = domain_laws d lawful in
        let kept : IsKept (IsValueOf d) (least_of d) (Some (joined_to (joined_of d) (value_at m k) v)) = subst (IsKept (IsValueOf d) (least_of d)) (sym (joined_option (joined_of d) (value_at m k) v))
        (kept_join (IsValueOf d) (least_of d) (joined_of d) laws (value_at m k) (Some v) (kept_value elem_cmp elem_total elem_exact (IsValueOf d) (least_of d) (joined_of d) laws m h.kept k) (valid, not_least d v e)) in
        entry_valid s d m k (joined_to (joined_of d) (value_at m k) v) h sorted kept.0 kept.1

pub map_of_valid : (s : Sort) (d : Domain) → IsLawful d → (ks : List Elem) (vs : List Value) (m : List (Elem × Value)) → IsMapIn s d m → All (IsOfSort s) ks → All (IsValueOf d) vs → IsMapIn s d (map_of d m (key_values ks vs))
map_of_valid s d lawful [] vs m h hk hv = h
map_of_valid s d lawful (k ∷ ks) [] m h hk hv = h
map_of_valid s d lawful (k ∷ ks) (v ∷ vs) m h hk hv =
    map_of_valid s d lawful ks vs (joined_in d m k v) (joined_valid s d lawful m k v h (All-head (IsOfSort s) k ks hk) (All-head (IsValueOf d) v vs hv)) (All-tail (IsOfSort s) k ks hk) (All-tail (IsValueOf d) v vs hv)

pub empty_valid : (s : Sort) (d : Domain) → IsMapIn s d []
empty_valid s d = record { rising = rising_nothing elem_cmp elem_total; sorts = All-nil (IsOfSort s); kept = All-nil (λ v. IsValueOf d v × (v ≡ least_of d → ⊥)) }
