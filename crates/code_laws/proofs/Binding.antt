-- Situations with one more binding, and sets and flat values over whose elements code is run.
use Rattle.std.proofs.Common.{◌≡◌, ℕ, zero, suc, ◌==◌, Bool, true, false, cond, List, [], ◌∷◌, ◌++◌, length, map, Some, None, refl, sym, ap, subst, ◌∙◌}
use Rattle.std.specs.Prelude.{All}
use Rattle.std.proofs.Math.Dec.{eqb-suc-zero, eqb-zero-suc, eqb-suc-suc}
use Rattle.std.specs.List.{filter}
use Rattle.std.proofs.lemmas.List.{map-append, length-map}
use Rattle.std.proofs.lemmas.List.Elements.{All-nil, All-head, All-tail}
use Rattle.flow_term.specs.declared.elem.Elem.{Elem}
use Rattle.flow_term.specs.declared.value.Bound.{Bound}
use Rattle.flow_term.specs.declared.value.Value.{Value, Value-F, out-Value}
use Rattle.flow_term.specs.declared.value.Value.TheVariants as value
use Rattle.flow_syntax.specs.Types.{Sort}
use Rattle.value_domains.specs.Domains.{Domain, IsValueOf}
use Rattle.value_domains.specs.Values.{ValueLayer, IsFlat, IsMay, IsMust, IsOfSort, elems_in}
use Rattle.expr_meaning.specs.Meaning.{Meaning, Sense, Situation, Usable, with_bound, chosen, on_set, set_of, bind_value}
use Rattle.expr_meaning.specs.Typing.{IsSets, of_may, of_must, Suits, Variable, and_variable, sort_in}
use Rattle.expr_meaning.proofs.Bound.{suits_more}
use Rattle.eval_code.specs.Needs.{Demand, IsMet, all_of, elems_of, with_slot}
use Rattle.eval_code.specs.Senses.{Given, bind_demand}
use Rattle.code_laws.specs.Codes.{GivesMeant, bound_elem, names_of, slots_at}

-- ONE MORE BINDING

-- the slot behind the others holds the element that is bound behind the others
more_elems : (bs : List Bound) (b : Bound) (m : ℕ) → cond (m == length bs) (Some b.value) (bound_elem bs m) ≡ bound_elem (bs ++ b ∷ []) m
more_elems [] b zero = refl
more_elems [] b (suc m) = ap (λ t. cond t (Some b.value) None) (eqb-suc-zero m)
more_elems (y ∷ ys) b zero = ap (λ t. cond t (Some b.value) (Some y.value)) (eqb-zero-suc (length ys))
more_elems (y ∷ ys) b (suc m) = ap (λ t. cond t (Some b.value) (bound_elem ys m)) (eqb-suc-suc m (length ys)) ∙ more_elems ys b m

pub slots_more : (usable : Usable) (at : Situation) (x : List ℕ) (v : Elem) → with_slot (slots_at usable at) (length at.bindings) v ≡ slots_at usable (with_bound at x v)
slots_more usable at x v = λ i. record { elems = λ m. more_elems at.bindings (record { name = x; value = v }) m i; has = usable.has; reads = at.reads }

pub names_more : (bs : List Bound) (names : List (List ℕ)) (x : List ℕ) (v : Elem) → names_of bs ≡ names → names_of (bs ++ record { name = x; value = v } ∷ []) ≡ names ++ x ∷ []
names_more bs names x v e = map-append (λ (b : Bound). b.name) bs (record { name = x; value = v } ∷ []) ∙ ap (λ (ns : List (List ℕ)). ns ++ x ∷ []) e

as_many : (bs : List Bound) (names : List (List ℕ)) → names_of bs ≡ names → length bs ≡ length names
as_many bs names e = sym (length-map bs (λ (b : Bound). b.name)) ∙ ap length e

module _ (usable : Usable) (vs : List Variable) (names : List (List ℕ)) (x : List ℕ) (s : Sort) (g : Given Meaning) (sense : Sense) (inner : GivesMeant usable (and_variable vs x s) (names ++ x ∷ []) g sense)
    (at : Situation) (suits : Suits usable vs at) (bound : names_of at.bindings ≡ names) (v : Elem) (sorted : IsOfSort s v) where
  slots_are : with_slot (slots_at usable at) (length names) v ≡ slots_at usable (with_bound at x v)
  slots_are = ap (λ n. with_slot (slots_at usable at) n v) (sym (as_many at.bindings names bound)) ∙ slots_more usable at x v

  pub inner_gives : g.sense (with_slot (slots_at usable at) (length names) v) ≡ sense (with_bound at x v)
  inner_gives = ap g.sense slots_are ∙ inner.gives (with_bound at x v) (suits_more usable vs at x s v suits sorted) (names_more at.bindings names x v bound)

  pub inner_needs : IsMet (g.demand (with_slot (slots_at usable at) (length names) v))
  inner_needs = subst (λ z. IsMet (g.demand z)) (sym slots_are) (inner.needs (with_bound at x v) (suits_more usable vs at x s v suits sorted) (names_more at.bindings names x v bound))

-- OVER A FLAT VALUE

pub bind_same : (s : Sort) (f g : Elem → Value) → ((v : Elem) → IsOfSort s v → f v ≡ g v) → (l : ValueLayer) → IsFlat s l → bind_value f l ≡ bind_value g l
bind_same s f g same (Value-F.Flat v) h = same v h
bind_same s f g same _ h = refl

pub bind_met : (s : Sort) (f : Elem → Demand) → ((v : Elem) → IsOfSort s v → IsMet (f v)) → (l : ValueLayer) → IsFlat s l → IsMet (bind_demand f l)
bind_met s f met (Value-F.Flat v) h = met v h
bind_met s f met _ h = tt

-- OVER A SET

may_sorts : (s : Sort) (l : ValueLayer) → IsMay s l → All (IsOfSort s) (elems_in l)
may_sorts s (Value-F.Set xs) h = h.sorts
may_sorts s _ h = absurd h

must_sorts : (s : Sort) (l : ValueLayer) → IsMust s l → All (IsOfSort s) (elems_in l)
must_sorts s (Value-F.Set xs) h = h.sorts
must_sorts s Value-F.Unreached h = All-nil (IsOfSort s)
must_sorts s _ h = absurd h

pub sets_sorts : (d : Domain) → IsSets d → (v : Value) → IsValueOf d v → All (IsOfSort (sort_in d)) (elems_of v)
sets_sorts _ (of_may s) v h = may_sorts s (out-Value v) h
sets_sorts _ (of_must s) v h = must_sorts s (out-Value v) h

kept_same : (s : Sort) (f g : Elem → Elem) (c d : Elem → Bool) → ((v : Elem) → IsOfSort s v → f v ≡ g v) → ((v : Elem) → IsOfSort s v → c v ≡ d v) → (xs : List Elem) → All (IsOfSort s) xs → map f (filter c xs) ≡ map g (filter d xs)
kept_same s f g c d same holds [] h = refl
kept_same s f g c d same holds (x ∷ xs) h =
    let head = All-head (IsOfSort s) x xs h in
    let tail = kept_same s f g c d same holds xs (All-tail (IsOfSort s) x xs h) in
    by (c x) (d x) (holds x head) (same x head) tail
  where
    by : (t u : Bool) → t ≡ u → f x ≡ g x → map f (filter c xs) ≡ map g (filter d xs) → map f (cond t (x ∷ filter c xs) (filter c xs)) ≡ map g (cond u (x ∷ filter d xs) (filter d xs))
    by true true e one others = λ i. one i ∷ others i
    by false false e one others = others
    by true false e one others = absurd cc
    by false true e one others = absurd cc

set_same : (F G : List Elem → List Elem) (l : ValueLayer) → F (elems_in l) ≡ G (elems_in l) → on_set F l ≡ on_set G l
set_same F G Value-F.Unreached h = refl
set_same F G _ h = ap value.Set h

pub chosen_same : (s : Sort) (f g : Elem → Elem) (c d : Elem → Bool) → ((v : Elem) → IsOfSort s v → f v ≡ g v) → ((v : Elem) → IsOfSort s v → c v ≡ d v) → (v : Value) → All (IsOfSort s) (elems_of v)
    → on_set (chosen f c) (out-Value v) ≡ on_set (chosen g d) (out-Value v)
chosen_same s f g c d same holds v h = set_same (chosen f c) (chosen g d) (out-Value v) (ap set_of (kept_same s f g c d same holds (elems_of v) h))

pub all_met : (s : Sort) (P : Elem → Demand) → ((v : Elem) → IsOfSort s v → IsMet (P v)) → (xs : List Elem) → All (IsOfSort s) xs → IsMet (all_of (map P xs))
all_met s P met [] h = tt
all_met s P met (x ∷ xs) h = (met x (All-head (IsOfSort s) x xs h), all_met s P met xs (All-tail (IsOfSort s) x xs h))
