-- Operations on sets keep inclusion.
use Rattle.std.proofs.Common.{◌≡◌, Bool, true, false, cond, not, List, [], ◌∷◌, map, refl, sym, ap, subst, ◌∙◌, inl, inr}
use Rattle.std.specs.Prelude.{Contains}
use Rattle.std.specs.List.{filter}
use Rattle.std.specs.Ordering.{eq_by_cmp}
use Rattle.std.proofs.lemmas.Bool.{or_cases, or_left, or_right, and_parts, and_from, true≢false}
use Rattle.flow_term.specs.declared.elem.Elem.{Elem}
use Rattle.flow_term.specs.declared.value.Value.{Value, Value-F, out-Value}
use Rattle.flow_term.specs.declared.value.Value.TheVariants as value
use Rattle.flow_term.specs.Elements.{elem_cmp}
use Rattle.flow_syntax.specs.Types.{Sort}
use Rattle.value_domains.specs.Values.{ValueLayer, union_of, intersection_of, has_elem, elems_in, Includes, IsMay, IsBelowMust}
use Rattle.value_domains.specs.inner.Elements.{elem_total, elem_exact}
use Rattle.lattice_sets.specs.SetLaws.{has_union, has_intersection, has_difference, has_contained, contains_had, same_tied, ties_itself}
use Rattle.expr_meaning.specs.Meaning.{set_of, difference_of, on_set, on_sets, chosen, is_member}

-- INCLUSION, BY TESTS

pub had : (xs : List Elem) (q : Elem) → Contains xs q → has_elem xs q ≡ true
had xs q c = has_contained elem_cmp elem_total elem_exact xs q c

pub contained : (xs : List Elem) (q : Elem) → has_elem xs q ≡ true → Contains xs q
contained xs q h = contains_had elem_cmp elem_total elem_exact xs q h

pub to_has : (a b : List Elem) → Includes a b → (q : Elem) → has_elem b q ≡ true → has_elem a q ≡ true
to_has a b h q e = had a q (h q (contained b q e))

pub from_has : (a b : List Elem) → ((q : Elem) → has_elem b q ≡ true → has_elem a q ≡ true) → Includes a b
from_has a b h q c = contained a q (h q (had b q c))

-- OPERATIONS

pub union_grows : (a1 a2 b1 b2 : List Elem) → Includes a1 a2 → Includes b1 b2 → Includes (union_of a1 b1) (union_of a2 b2)
union_grows a1 a2 b1 b2 h k = from_has (union_of a1 b1) (union_of a2 b2) (λ q e.
    has_union elem_cmp elem_total elem_exact a1 b1 q
    ∙ elim (or_cases (has_elem a2 q) (has_elem b2 q) (sym (has_union elem_cmp elem_total elem_exact a2 b2 q) ∙ e)) [
      | inl x ↦ or_left (has_elem a1 q) (has_elem b1 q) (to_has a1 a2 h q x)
      | inr y ↦ or_right (has_elem a1 q) (has_elem b1 q) (to_has b1 b2 k q y)
    ])

pub intersection_grows : (a1 a2 b1 b2 : List Elem) → Includes a1 a2 → Includes b1 b2 → Includes (intersection_of a1 b1) (intersection_of a2 b2)
intersection_grows a1 a2 b1 b2 h k = from_has (intersection_of a1 b1) (intersection_of a2 b2) (λ q e.
    let parts = and_parts (has_elem a2 q) (has_elem b2 q) (sym (has_intersection elem_cmp elem_total elem_exact a2 b2 q) ∙ e) in
    has_intersection elem_cmp elem_total elem_exact a1 b1 q ∙ and_from (has_elem a1 q) (has_elem b1 q) (to_has a1 a2 h q parts.0) (to_has b1 b2 k q parts.1))

not_up : (a b : Bool) → (b ≡ true → a ≡ true) → not a ≡ true → not b ≡ true
not_up a false h e = refl
not_up a true h e = sym (ap not (h refl)) ∙ e

-- a difference falls where the second set grows
pub difference_grows : (a1 a2 b1 b2 : List Elem) → Includes a1 a2 → Includes b2 b1 → Includes (difference_of a1 b1) (difference_of a2 b2)
difference_grows a1 a2 b1 b2 h k = from_has (difference_of a1 b1) (difference_of a2 b2) (λ q e.
    let parts = and_parts (has_elem a2 q) (not (has_elem b2 q)) (sym (has_difference elem_cmp elem_total elem_exact a2 b2 q) ∙ e) in
    has_difference elem_cmp elem_total elem_exact a1 b1 q
    ∙ and_from (has_elem a1 q) (not (has_elem b1 q)) (to_has a1 a2 h q parts.0) (not_up (has_elem b2 q) (has_elem b1 q) (to_has b2 b1 k q) parts.1))

-- COMPREHENSIONS

has_set : (xs : List Elem) (q : Elem) → has_elem (set_of xs) q ≡ has_elem xs q
has_set xs q = has_union elem_cmp elem_total elem_exact [] xs q

-- what a list of made elements has
abbrev pub IsMade : (Elem → Elem) → (Elem → Bool) → List Elem → Elem → Type 0
IsMade f c xs q = (x : Elem) × (has_elem xs x ≡ true) × (c x ≡ true) × (eq_by_cmp elem_cmp q (f x) ≡ true)

made_later : (f : Elem → Elem) (c : Elem → Bool) (x : Elem) (xs : List Elem) (q : Elem) → IsMade f c xs q → IsMade f c (x ∷ xs) q
made_later f c x xs q m = (m.0, or_right (eq_by_cmp elem_cmp m.0 x) (has_elem xs m.0) m.1, m.2, m.3)

made : (f : Elem → Elem) (c : Elem → Bool) (xs : List Elem) (q : Elem) → has_elem (map f (filter c xs)) q ≡ true → IsMade f c xs q
made f c [] q h = absurd (true≢false (sym h))
made f c (x ∷ xs) q h =
    elim (c x) as (λ b. c x ≡ b → has_elem (map f (cond b (x ∷ filter c xs) (filter c xs))) q ≡ true → IsMade f c (x ∷ xs) q) [
      | true ↦ λ e k. elim (or_cases (eq_by_cmp elem_cmp q (f x)) (has_elem (map f (filter c xs)) q) k) [
        | inl here ↦ (x, or_left (eq_by_cmp elem_cmp x x) (has_elem xs x) (ties_itself elem_cmp elem_total elem_exact x), e, here)
        | inr later ↦ made_later f c x xs q (made f c xs q later)
      ]
      | false ↦ λ e k. made_later f c x xs q (made f c xs q k)
    ] refl h

unmade : (f : Elem → Elem) (c : Elem → Bool) (xs : List Elem) (q : Elem) → IsMade f c xs q → has_elem (map f (filter c xs)) q ≡ true
unmade f c [] q m = absurd (true≢false (sym m.1))
unmade f c (x ∷ xs) q m =
    let later : IsMade f c xs q → has_elem (map f (filter c xs)) q ≡ true = unmade f c xs q in
    elim (or_cases (eq_by_cmp elem_cmp m.0 x) (has_elem xs m.0) m.1) [
      | inl here ↦
          let same : m.0 ≡ x = same_tied elem_cmp elem_total elem_exact m.0 x here in
          subst (λ b. has_elem (map f (cond b (x ∷ filter c xs) (filter c xs))) q ≡ true) (sym (ap c (sym same) ∙ m.2))
          (or_left (eq_by_cmp elem_cmp q (f x)) (has_elem (map f (filter c xs)) q) (ap (λ y. eq_by_cmp elem_cmp q (f y)) (sym same) ∙ m.3))
      | inr there ↦ (let rest = later (m.0, there, m.2, m.3) in
          elim (c x) as (λ b. has_elem (map f (cond b (x ∷ filter c xs) (filter c xs))) q ≡ true) [
            | true ↦ or_right (eq_by_cmp elem_cmp q (f x)) (has_elem (map f (filter c xs)) q) rest
            | false ↦ rest
          ])
    ]

-- a comprehension grows with its set and with its condition, where it makes the same of each element of the lesser set
pub chosen_grows : (f1 f2 : Elem → Elem) (c1 c2 : Elem → Bool) (xs1 xs2 : List Elem) → Includes xs1 xs2 → ((x : Elem) → Contains xs2 x → f2 x ≡ f1 x) → ((x : Elem) → Contains xs2 x → c2 x ≡ true → c1 x ≡ true)
    → Includes (chosen f1 c1 xs1) (chosen f2 c2 xs2)
chosen_grows f1 f2 c1 c2 xs1 xs2 h same k = from_has (chosen f1 c1 xs1) (chosen f2 c2 xs2) (λ q e.
    let m = made f2 c2 xs2 q (sym (has_set (map f2 (filter c2 xs2)) q) ∙ e) in
    let among = contained xs2 m.0 m.1 in
    has_set (map f1 (filter c1 xs1)) q ∙ unmade f1 c1 xs1 q (m.0, to_has xs1 xs2 h m.0 m.1, k m.0 among m.2, ap (eq_by_cmp elem_cmp q) (sym (same m.0 among)) ∙ m.3))

-- MUST SETS

-- what is above a reached set is a reached set that it includes
abbrev pub IsBelowSet : List Elem → ValueLayer → Type 0
IsBelowSet xs l = (ys : List Elem) × (l ≡ Value-F.Set ys) × Includes xs ys

below_set : (xs : List Elem) (l : ValueLayer) → IsBelowMust (Value-F.Set xs) l → IsBelowSet xs l
below_set xs (Value-F.Set ys) h = (ys, refl, h)
below_set xs _ h = absurd h

abbrev pub MustBelow : Value → Value → Type 0
MustBelow v w = IsBelowMust (out-Value v) (out-Value w)

unreached_below : (w : Value) → MustBelow value.Unreached w
unreached_below w = subst (λ l. IsBelowMust l (out-Value w)) (sym value.outs-Unreached) tt

sets_below : (xs ys : List Elem) → Includes xs ys → MustBelow (value.Set xs) (value.Set ys)
sets_below xs ys h = subst (λ l. IsBelowMust l (out-Value (value.Set ys))) (sym (value.outs-Set xs)) (subst (IsBelowMust (Value-F.Set xs)) (sym (value.outs-Set ys)) h)

-- an operation that grows with both sets, on must sets
pub must_operation : (f : List Elem → List Elem → List Elem) → ((a1 a2 b1 b2 : List Elem) → Includes a1 a2 → Includes b1 b2 → Includes (f a1 b1) (f a2 b2))
    → (x1 x2 y1 y2 : ValueLayer) → IsBelowMust x1 x2 → IsBelowMust y1 y2 → MustBelow (on_sets f x1 y1) (on_sets f x2 y2)
must_operation f grows Value-F.Unreached x2 y1 y2 h k = unreached_below (on_sets f x2 y2)
must_operation f grows (Value-F.Set a1) x2 Value-F.Unreached y2 h k = unreached_below (on_sets f x2 y2)
must_operation f grows (Value-F.Set a1) x2 (Value-F.Set b1) y2 h k =
    let a = below_set a1 x2 h in let b = below_set b1 y2 k in
    subst (λ x. MustBelow (value.Set (f a1 b1)) (on_sets f x y2)) (sym a.1) (subst (λ y. MustBelow (value.Set (f a1 b1)) (on_sets f (Value-F.Set a.0) y)) (sym b.1) (sets_below (f a1 b1) (f a.0 b.0) (grows a1 a.0 b1 b.0 a.2 b.2)))
must_operation f grows (Value-F.Set a1) x2 _ y2 h k = absurd k
must_operation f grows _ x2 y1 y2 h k = absurd h

-- what is made of the elements of a must set
pub must_made : (f g : List Elem → List Elem) (x1 x2 : ValueLayer) → ((a1 a2 : List Elem) → x1 ≡ Value-F.Set a1 → x2 ≡ Value-F.Set a2 → Includes a1 a2 → Includes (f a1) (g a2)) → IsBelowMust x1 x2 → MustBelow (on_set f x1) (on_set g x2)
must_made f g Value-F.Unreached x2 grows h = unreached_below (on_set g x2)
must_made f g (Value-F.Set a1) x2 grows h =
    let a = below_set a1 x2 h in subst (λ x. MustBelow (value.Set (f a1)) (on_set g x)) (sym a.1) (sets_below (f a1) (g a.0) (grows a1 a.0 refl a.1 a.2))
must_made f g _ x2 grows h = absurd h

-- membership falls where a must set rises
pub must_member : (e : Elem) (x1 x2 : ValueLayer) → IsBelowMust x1 x2 → is_member e x2 ≡ true → is_member e x1 ≡ true
must_member e Value-F.Unreached x2 h k = refl
must_member e (Value-F.Set a1) x2 h k = let a = below_set a1 x2 h in to_has a1 a.0 a.2 e (ap (is_member e) (sym a.1) ∙ k)
must_member e _ x2 h k = absurd h

-- MAY SETS

-- the elements of what is made of may sets
pub may_elems : (f : List Elem → List Elem → List Elem) (sort : Sort) (x y : ValueLayer) → IsMay sort x → IsMay sort y → elems_in (out-Value (on_sets f x y)) ≡ f (elems_in x) (elems_in y)
may_elems f sort (Value-F.Set a) (Value-F.Set b) h k = ap elems_in (value.outs-Set (f a b))
may_elems f sort (Value-F.Set a) _ h k = absurd k
may_elems f sort _ y h k = absurd h

pub may_made : (f : List Elem → List Elem) (sort : Sort) (x : ValueLayer) → IsMay sort x → elems_in (out-Value (on_set f x)) ≡ f (elems_in x)
may_made f sort (Value-F.Set a) h = ap elems_in (value.outs-Set (f a))
may_made f sort _ h = absurd h

pub may_is_member : (e : Elem) (sort : Sort) (x : ValueLayer) → IsMay sort x → is_member e x ≡ has_elem (elems_in x) e
may_is_member e sort (Value-F.Set a) h = refl
may_is_member e sort _ h = absurd h

-- a difference of must sets rises with the first, where the second is the same
pub minus_layers : (x1 x2 y : ValueLayer) → IsBelowMust x1 x2 → MustBelow (on_sets difference_of x1 y) (on_sets difference_of x2 y)
minus_layers Value-F.Unreached x2 y h = unreached_below (on_sets difference_of x2 y)
minus_layers (Value-F.Set a1) x2 Value-F.Unreached h = unreached_below (on_sets difference_of x2 Value-F.Unreached)
minus_layers (Value-F.Set a1) x2 y h =
    let a = below_set a1 x2 h in
    subst (λ x. MustBelow (on_sets difference_of (Value-F.Set a1) y) (on_sets difference_of x y)) (sym a.1)
    (sets_below (difference_of a1 (elems_in y)) (difference_of a.0 (elems_in y)) (difference_grows a1 a.0 (elems_in y) (elems_in y) a.2 (λ q c. c)))
minus_layers _ x2 y h = absurd h
