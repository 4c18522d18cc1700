-- What is found in a list is the item with the number that a look-up has.
use Rattle.std.proofs.Common.{◌≡◌, ℕ, ltb, length, get_or, is_some, inl, inr, Bool, true, false, cond, List, [], ◌∷◌, Option, None, Some, refl, sym, ap, ◌∙◌, bytes_eq}
use Rattle.std.specs.Prelude.{find, map, slice_get, option_and_then}
use Rattle.std.specs.HashMap.{HashMap, get}
use Rattle.std.specs.List.{position_from}
use Rattle.std.specs.Map.{lookup}
use Rattle.std.specs.Option.{option_map, option_copied, IfSome}
use Rattle.std.specs.Borrow.{Bor}
use Rattle.std.proofs.lemmas.Bool.{true≢false}
use Rattle.std.proofs.lemmas.Bool.Decides.{Decides-ltb}
use Rattle.std.proofs.lemmas.Option.{slice_get_cases, slice_get_read}
use Rattle.indexmap.specs.IndexMap.{insert_entry}
use Rattle.indexmap.proofs.CallerLemmas.{insert_entry-new}
use Rattle.check_base.specs.Tables.{or_where}
use Rattle.check_base.proofs.Finding.{found_at}
use Rattle.check_base.proofs.TableLemmas.{lookup-push}
use Rattle.check_exprs.specs.declared.variables.PatternVariable.{PatternVariable}
use Rattle.check_exprs.specs.inner.Variables.{find_named, number_in, pattern_variable}

-- what an index of a slice gives
pub got : {X : Type 0} (o : Option (Bor X)) (xs : List X) (n : ℕ) → is_some o ≡ ltb n (length xs) → IfSome o (λ x. x.now ≡ get_or xs n x.now) → option_copied o ≡ slice_get xs n
got None xs n there is = elim (slice_get_cases xs n).1 [
  | inl w ↦ absurd (true≢false (sym ((Decides-ltb n (length xs)).1 w.1) ∙ sym there))
  | inr w ↦ sym w.1
]
got (Some x) xs n there is = sym (slice_get_read xs (length xs) n x.now refl ((Decides-ltb n (length xs)).0 (sym there)) is)

find-map : {A B : Type 0} (t : B → Bool) (f : A → B) (xs : List A) → find t (map f xs) ≡ option_map f (find (λ x. t (f x)) xs)
find-map t f [] = refl
find-map t f (x ∷ xs) = by (find-map t f xs) (t (f x))
  where
    by : find t (map f xs) ≡ option_map f (find (λ y. t (f y)) xs) → (b : Bool) → cond b (Some (f x)) (find t (map f xs)) ≡ option_map f (cond b (Some x) (find (λ y. t (f y)) xs))
    by rest true = refl
    by rest false = rest

-- the first variable of a name, by its number
pub variable_found : (vs : List PatternVariable) (x : List ℕ) (number : Option ℕ) → number ≡ position_from (λ v. bytes_eq x v.name.now) 0 vs
    → find_named x vs ≡ option_map pattern_variable (option_and_then (slice_get vs) number)
variable_found vs x number is = find-map _ pattern_variable vs ∙ ap (option_map pattern_variable) (found_at (λ v. bytes_eq x v.name.now) vs number is)

-- what an insertion of a new name makes
pub number_in-insert : {S : Type 0} (old new : HashMap (List ℕ) ℕ S) (eq : List ℕ → List ℕ → Bool) (key : List ℕ) (v : ℕ) → get eq old key ≡ None → new.entries ≡ insert_entry eq old.entries key v → (x : List ℕ)
    → number_in new x ≡ or_where (number_in old x) (bytes_eq x key) v
number_in-insert old new eq key v absent made x = ap (lookup (bytes_eq x)) (made ∙ insert_entry-new eq old key v absent) ∙ lookup-push (bytes_eq x) old.entries key v
