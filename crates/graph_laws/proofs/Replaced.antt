-- A term of which one child is replaced.
use Rattle.std.proofs.Common.{◌≡◌, ◌≢◌, ℕ, zero, suc, List, [], ◌∷◌, Option, Some, refl, ap, ◌∙◌}
use Rattle.std.specs.Prelude.{option_map, slice_get, slice_set, unwrap_or}
use Rattle.flow_term.specs.declared.term.Term.{Term, Term-F, out-Term, out-roll-Term}
use Rattle.flow_term.specs.declared.term.Kind.{Kind, Kind-F, roll-Kind, out-Kind, out-roll-Kind}
use Rattle.flow_term.specs.Annotations.{TermLayer, term_layer}
use Rattle.flow_term.specs.Trees.{Put, children, parts, with_children, with_parts}
use Rattle.flow_syntax.specs.Matching.{is_list}

-- ** a list of which one item is set

pub get_set_same : {X : Type 0} (xs : List X) (n : ℕ) (x y : X) → slice_get xs n ≡ Some x → slice_get (slice_set xs n y) n ≡ Some y
get_set_same [] n x y h = cc
get_set_same (z ∷ xs) zero x y h = refl
get_set_same (z ∷ xs) (suc n) x y h = get_set_same xs n x y h

pub get_set_other : {X : Type 0} (xs : List X) (n m : ℕ) (y : X) → m ≢ n → slice_get (slice_set xs n y) m ≡ slice_get xs m
get_set_other [] n m y h = refl
get_set_other (z ∷ xs) zero zero y h = absurd (h refl)
get_set_other (z ∷ xs) zero (suc m) y h = refl
get_set_other (z ∷ xs) (suc n) zero y h = refl
get_set_other (z ∷ xs) (suc n) (suc m) y h = get_set_other xs n m y (λ e. h (ap suc e))

-- ** a term with other children

pub layer_with : (t : Term) (us : List Term) → term_layer (with_children t us) ≡ with_parts (term_layer t) us
layer_with t us =
    ap (λ (l : Term-F Kind Term). out-Kind l.kind) (out-roll-Term (record (out-Term t) { kind = roll-Kind (with_parts (term_layer t) us) })) ∙ out-roll-Kind (with_parts (term_layer t) us)

pub annos_with : (t : Term) (us : List Term) → (out-Term (with_children t us)).annos ≡ (out-Term t).annos
annos_with t us = ap (λ (l : Term-F Kind Term). l.annos) (out-roll-Term (record (out-Term t) { kind = roll-Kind (with_parts (term_layer t) us) }))

parts_set : (y : TermLayer) (n : ℕ) (u : Term) → parts (with_parts y (slice_set (parts y) n u)) ≡ slice_set (parts y) n u
parts_set (Kind-F.Apply name args) n u = refl
parts_set (Kind-F.Tuple items) n u = refl
parts_set (Kind-F.Items items) n u = refl
parts_set (Kind-F.Int k) n u = refl
parts_set (Kind-F.Str text) n u = refl

pub list_with : (y : TermLayer) (us : List Term) → is_list (with_parts y us) ≡ is_list y
list_with (Kind-F.Apply other args) us = refl
list_with (Kind-F.Tuple items) us = refl
list_with (Kind-F.Items items) us = refl
list_with (Kind-F.Int k) us = refl
list_with (Kind-F.Str text) us = refl

-- ** a term with one other child

-- the term in which this child is u
abbrev pub Replaced : Term → ℕ → Term → Term
Replaced t n u = with_children t (slice_set (children t) n u)

pub children_replaced : (t : Term) (n : ℕ) (u : Term) → children (Replaced t n u) ≡ slice_set (children t) n u
children_replaced t n u = ap parts (layer_with t (slice_set (children t) n u)) ∙ parts_set (term_layer t) n u

-- a replacement, seen at the root
pub put_at : (t : Term) (n : ℕ) (rest : List ℕ) (new : Term) (o : Option Term) → slice_get (children t) n ≡ o
    → Put t (n ∷ rest) new ≡ unwrap_or (option_map (λ child. Replaced t n (Put child rest new)) o) t
put_at t n rest new o is = ap (λ (o : Option Term). unwrap_or (option_map (λ child. Replaced t n (Put child rest new)) o) t) is
