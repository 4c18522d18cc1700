-- What is put back leaves the tree as it was, and what is put stands where it was put.
use Rattle.std.proofs.Common.{◌≡◌, ℕ, zero, suc, List, [], ◌∷◌, Option, Some, None, refl, sym, ap, ◌∙◌}
use Rattle.std.specs.Prelude.{slice_get, slice_set, option_and_then, option_map, unwrap_or}
use Rattle.std.proofs.lemmas.Option.{same_Some}
use Rattle.std.proofs.lemmas.List.{set-set}
use Rattle.flow_term.proofs.Lists.{set_back}
use Rattle.flow_term.specs.declared.term.Term.{Term, Term-F, out-Term, out-roll-Term, roll-Term, roll-out-Term}
use Rattle.flow_term.specs.declared.term.Kind.{Kind, out-Kind, out-roll-Kind, roll-Kind, roll-out-Kind}
use Rattle.flow_term.specs.declared.term.Kind.TheOpen.{Kind-F}
use Rattle.flow_term.specs.Trees.{At, Put, children, parts, with_children, with_parts}
use Rattle.tree_laws.specs.Laws.{WhatWasThereIsBack, WhatIsPutIsThere}

parts_twice : {K T : Type 0} (k : Kind-F K T) (a b : List T) → with_parts (with_parts k a) b ≡ with_parts k b
parts_twice (Kind-F.Apply name args) a b = refl
parts_twice (Kind-F.Tuple items) a b = refl
parts_twice (Kind-F.Items items) a b = refl
parts_twice (Kind-F.Int n) a b = refl
parts_twice (Kind-F.Str text) a b = refl

own_parts : {K T : Type 0} (k : Kind-F K T) → with_parts k (parts k) ≡ k
own_parts (Kind-F.Apply name args) = refl
own_parts (Kind-F.Tuple items) = refl
own_parts (Kind-F.Items items) = refl
own_parts (Kind-F.Int n) = refl
own_parts (Kind-F.Str text) = refl

-- a layer that has a part keeps the parts that it is given
parts_given : {K T : Type 0} (k : Kind-F K T) (n : ℕ) (x : T) (a : List T) → slice_get (parts k) n ≡ Some x → parts (with_parts k a) ≡ a
parts_given (Kind-F.Apply name args) n x a h = refl
parts_given (Kind-F.Tuple items) n x a h = refl
parts_given (Kind-F.Items items) n x a h = refl
parts_given (Kind-F.Int m) n x a h = let e : None ≡ Some x = h in cc
parts_given (Kind-F.Str text) n x a h = let e : None ≡ Some x = h in cc

-- the outside of a term with these children
laid : (t : Term) (a : List Term) → out-Term (with_children t a) ≡ record { kind = roll-Kind (with_parts (out-Kind (out-Term t).kind) a); annos = (out-Term t).annos }
laid t a = out-roll-Term (record { kind = roll-Kind (with_parts (out-Kind (out-Term t).kind) a); annos = (out-Term t).annos })

children_twice : (t : Term) (a b : List Term) → with_children (with_children t a) b ≡ with_children t b
children_twice t a b =
    ap (λ (r : Term-F Kind Term). roll-Term (record { kind = roll-Kind (with_parts (out-Kind r.kind) b); annos = r.annos })) (laid t a)
    ∙ ap (λ (k : Kind-F Kind Term). roll-Term (record { kind = roll-Kind (with_parts k b); annos = (out-Term t).annos })) (out-roll-Kind (with_parts (out-Kind (out-Term t).kind) a))
    ∙ ap (λ (k : Kind-F Kind Term). roll-Term (record { kind = roll-Kind k; annos = (out-Term t).annos })) (parts_twice (out-Kind (out-Term t).kind) a b)

own_children : (t : Term) → with_children t (children t) ≡ t
own_children t =
    ap (λ (k : Kind-F Kind Term). roll-Term (record { kind = roll-Kind k; annos = (out-Term t).annos })) (own_parts (out-Kind (out-Term t).kind))
    ∙ ap (λ (k : Kind). roll-Term (record { kind = k; annos = (out-Term t).annos })) (roll-out-Kind (out-Term t).kind)
    ∙ roll-out-Term t

children_given : (t : Term) (n : ℕ) (x : Term) (a : List Term) → slice_get (children t) n ≡ Some x → children (with_children t a) ≡ a
children_given t n x a h =
    ap (λ (r : Term-F Kind Term). parts (out-Kind r.kind)) (laid t a)
    ∙ ap (λ (k : Kind-F Kind Term). parts k) (out-roll-Kind (with_parts (out-Kind (out-Term t).kind) a))
    ∙ parts_given (out-Kind (out-Term t).kind) n x a h

-- the new tree, one layer down
put_at : (t : Term) (n : ℕ) (path : List ℕ) (new child : Term) → slice_get (children t) n ≡ Some child → Put t (n ∷ path) new ≡ with_children t (slice_set (children t) n (Put child path new))
put_at t n path new child h = ap (λ (o : Option Term). unwrap_or (option_map (λ c. with_children t (slice_set (children t) n (Put c path new))) o) t) h

got_set : {X : Type 0} (xs : List X) (i : ℕ) (x y : X) → slice_get xs i ≡ Some x → slice_get (slice_set xs i y) i ≡ Some y
got_set [] i x y h = let e : None ≡ Some x = h in cc
got_set (z ∷ xs) zero x y h = refl
got_set (z ∷ xs) (suc i) x y h = got_set xs i x y h

-- what was there is put back
pub put_back : (t : Term) (path : List ℕ) (new old : Term) → At t path ≡ Some old → Put (Put t path new) path old ≡ t
put_back t [] new old h = sym (same_Some t old h)
put_back t (n ∷ path) new old h = by_child (slice_get (children t) n) refl (λ child there. put_back child path new old there) where
  by_child : (o : Option Term) → slice_get (children t) n ≡ o → ((child : Term) → At child path ≡ Some old → Put (Put child path new) path old ≡ child) → Put (Put t (n ∷ path) new) (n ∷ path) old ≡ t
  by_child None e again = let gone : None ≡ Some old = ap (λ (o : Option Term). option_and_then (λ child. At child path) o) (sym e) ∙ h in cc
  by_child (Some child) e again =
      let there : At child path ≡ Some old = ap (λ (o : Option Term). option_and_then (λ c. At c path) o) (sym e) ∙ h in
      let given : children (with_children t (slice_set (children t) n (Put child path new))) ≡ slice_set (children t) n (Put child path new) = children_given t n child (slice_set (children t) n (Put child path new)) e in
      let got : slice_get (children (with_children t (slice_set (children t) n (Put child path new)))) n ≡ Some (Put child path new) = ap (λ (xs : List Term). slice_get xs n) given ∙ got_set (children t) n child (Put child path new) e in
      ap (λ (x : Term). Put x (n ∷ path) old) (put_at t n path new child e)
      ∙ put_at (with_children t (slice_set (children t) n (Put child path new))) n path old (Put child path new) got
      ∙ children_twice t (slice_set (children t) n (Put child path new)) (slice_set (children (with_children t (slice_set (children t) n (Put child path new)))) n (Put (Put child path new) path old))
      ∙ ap (λ (xs : List Term). with_children t (slice_set xs n (Put (Put child path new) path old))) given
      ∙ ap (λ (xs : List Term). with_children t xs) (set-set (children t) n (Put child path new) (Put (Put child path new) path old))
      ∙ ap (λ (x : Term). with_children t (slice_set (children t) n x)) (again child there)
      ∙ ap (λ (xs : List Term). with_children t xs) (set_back (children t) n child e)
      ∙ own_children t

-- the new part stands where it was put
pub got_put : (t : Term) (path : List ℕ) (new old : Term) → At t path ≡ Some old → At (Put t path new) path ≡ Some new
got_put t [] new old h = refl
got_put t (n ∷ path) new old h = by_child (slice_get (children t) n) refl (λ child there. got_put child path new old there) where
  by_child : (o : Option Term) → slice_get (children t) n ≡ o → ((child : Term) → At child path ≡ Some old → At (Put child path new) path ≡ Some new) → At (Put t (n ∷ path) new) (n ∷ path) ≡ Some new
  by_child None e again = let gone : None ≡ Some old = ap (λ (o : Option Term). option_and_then (λ child. At child path) o) (sym e) ∙ h in cc
  by_child (Some child) e again =
      let there : At child path ≡ Some old = ap (λ (o : Option Term). option_and_then (λ c. At c path) o) (sym e) ∙ h in
      ap (λ (x : Term). At x (n ∷ path)) (put_at t n path new child e)
      ∙ ap (λ (xs : List Term). option_and_then (λ c. At c path) (slice_get xs n)) (children_given t n child (slice_set (children t) n (Put child path new)) e)
      ∙ ap (λ (o : Option Term). option_and_then (λ c. At c path) o) (got_set (children t) n child (Put child path new) e)
      ∙ again child there

pub was_there_is_back : WhatWasThereIsBack
was_there_is_back t path new old there = put_back t path new old there

pub is_put_is_there : WhatIsPutIsThere
is_put_is_there t path new old there = got_put t path new old there
