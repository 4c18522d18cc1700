-- Variables that are bound by their names.
use Rattle.std.proofs.Common.{◌≡◌, ℕ, Bool, true, false, cond, List, [], ◌∷◌, ◌++◌, map, Option, Some, None, refl, sym, subst, bytes_eq, find}
use Rattle.std.specs.List.{AllZip}
use Rattle.flow_term.specs.declared.elem.Elem.{Elem}
use Rattle.flow_term.specs.declared.value.Bound.{Bound}
use Rattle.value_domains.specs.Values.{IsOfSort}
use Rattle.flow_syntax.specs.Types.{Sort}
use Rattle.expr_meaning.specs.Meaning.{Situation, Usable, with_bound, bound_to}
use Rattle.expr_meaning.specs.Typing.{Variable, and_variable, variable_of, IsBoundAs, Suits}

-- the first, or else the second
abbrev pub or_else : {X : Type 0} → Option X → Option X → Option X
or_else (Some x) o = Some x
or_else None o = o

pub find_more : {X : Type 0} (p : X → Bool) (xs : List X) (z : X) → find p (xs ++ z ∷ []) ≡ or_else (find p xs) (cond (p z) (Some z) None)
find_more p [] z = refl
find_more p (x ∷ xs) z = by (p x) (find_more p xs z)
  where
    by : (b : Bool) → find p (xs ++ z ∷ []) ≡ or_else (find p xs) (cond (p z) (Some z) None) → cond b (Some x) (find p (xs ++ z ∷ [])) ≡ or_else (cond b (Some x) (find p xs)) (cond (p z) (Some z) None)
    by true h = refl
    by false h = h

one_more : (o : Option Variable) (c : Option Bound) (t : Bool) (v : Variable) (b : Bound) → IsBoundAs o c → IsOfSort v.sort b.value → IsBoundAs (or_else o (cond t (Some v) None)) (or_else c (cond t (Some b) None))
one_more (Some u) (Some c) t v b h k = h
one_more None None true v b h k = k
one_more None None false v b h k = tt
one_more (Some u) None t v b h k = absurd h
one_more None (Some c) t v b h k = absurd h

module _ (usable : Usable) where
  pub suits_more : (vs : List Variable) (at : Situation) (x : List ℕ) (s : Sort) (e : Elem) → Suits usable vs at → IsOfSort s e → Suits usable (and_variable vs x s) (with_bound at x e)
  suits_more vs at x s e h k = record {
    bound = λ y used.
        subst (λ (o : Option Variable). IsBoundAs o (bound_to (at.bindings ++ record { name = x; value = e } ∷ []) y)) (sym (find_more (λ v. bytes_eq y v.name) vs (record { name = x; sort = s })))
        (subst (λ (o : Option Bound). IsBoundAs (or_else (variable_of vs y) (cond (bytes_eq y x) (Some (record { name = x; sort = s })) None)) o) (sym (find_more (λ b. bytes_eq y b.name) at.bindings (record { name = x; value = e })))
        (one_more (variable_of vs y) (bound_to at.bindings y) (bytes_eq y x) _ _ (h.bound y used) k));
    reads = h.reads;
  }

-- variables that are bound in their order are bound by their names
pub bound_in_order : {V : Type 0} (as_variable : V → Variable) (vs : List V) (bs : List Bound) → AllZip (λ v b. ((as_variable v).name ≡ b.name) × IsOfSort (as_variable v).sort b.value) vs bs
    → (x : List ℕ) → IsBoundAs (variable_of (map as_variable vs) x) (bound_to bs x)
bound_in_order f [] [] h x = tt
bound_in_order f [] (b ∷ bs) h x = absurd h
bound_in_order f (v ∷ vs) [] h x = absurd h
bound_in_order f (v ∷ vs) (b ∷ bs) h x =
    subst (λ (n : List ℕ). IsBoundAs (cond (bytes_eq x (f v).name) (Some (f v)) (variable_of (map f vs) x)) (cond (bytes_eq x n) (Some b) (bound_to bs x))) h.0.0 (by (bytes_eq x (f v).name) (bound_in_order f vs bs h.1 x))
  where
    by : (t : Bool) → IsBoundAs (variable_of (map f vs) x) (bound_to bs x) → IsBoundAs (cond t (Some (f v)) (variable_of (map f vs) x)) (cond t (Some b) (bound_to bs x))
    by true later = h.0.1
    by false later = later
