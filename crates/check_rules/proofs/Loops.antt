-- What loops gather and collect.
use Rattle.std.proofs.Common.{IsTrue, ◌≡◌, ℕ, ◌+◌, ◌<◌, Bool, ◌||◌, List, [], ◌∷◌, ◌++◌, length, map, take, get_or, Some, refl, sym, ap, subst, ◌∙◌}
use Rattle.std.specs.Prelude.{slice_get}
use Rattle.std.specs.List.{list_any}
use Rattle.std.specs.Option.{option_map}
use Rattle.std.proofs.lemmas.List.{take_more}
use Rattle.std.proofs.lemmas.Option.{slice_get_read, slice_get-map, slice_get_within, get_or_from_slice_get}
use Rattle.flow_syntax.specs.declared.fault.SpecFaultKind.{SpecFaultKind}
use Rattle.check_base.specs.Earliest.{Gathers, FirstHave, IsFaultWhere}
use Rattle.check_base.proofs.GathersLaws.{Found, Gathers-next}
use Rattle.check_base.proofs.TableLemmas.{list_any-push}

-- the item at an index that was read
pub read_at : {X : Type 0} (xs : List X) (n : ℕ) (x : X) → n < length xs → x ≡ get_or xs n x → slice_get xs n ≡ Some x
read_at xs n x within is = slice_get_read xs (length xs) n x refl within is

-- a test of a list that grows
pub any_more : {T : Type 0} (test : T → Bool) (xs : List T) (n : ℕ) (x : T) (old new : Bool) → n < length xs → x ≡ get_or xs n x → old ≡ list_any test (take n xs) → new ≡ (old || test x) → new ≡ list_any test (take (n + 1) xs)
any_more test xs n x old new within is was made =
    made ∙ ap (λ b. b || test x) was ∙ sym (list_any-push test (take n xs) x) ∙ ap (list_any test) (sym (take_more xs n x within ∙ ap (λ z. take n xs ++ z ∷ []) (sym is)))

-- the same where items are seen otherwise
pub gathers_shown : {A T : Type 0} {P : ℕ → T → ℕ → SpecFaultKind → Type 0} (f : A → T) (xs : List A) (n : ℕ) (x : A) {old mid new : Found} → n < length xs → x ≡ get_or xs n x → Gathers old mid (FirstHave P n (map f xs))
    → Gathers mid new (P n (f x)) → Gathers old new (FirstHave P (n + 1) (map f xs))
gathers_shown f xs n x within is before here = Gathers-next (map f xs) n (f x) (slice_get-map f xs n ∙ ap (option_map f) (read_at xs n x within is)) before here

pub any_shown : {A T : Type 0} (test : T → Bool) (f : A → T) (xs : List A) (n : ℕ) (x : A) (old new : Bool) → n < length xs → x ≡ get_or xs n x → old ≡ list_any test (take n (map f xs)) → new ≡ (old || test (f x))
    → new ≡ list_any test (take (n + 1) (map f xs))
any_shown test f xs n x old new within is was made =
    let at : slice_get (map f xs) n ≡ Some (f x) = slice_get-map f xs n ∙ ap (option_map f) (read_at xs n x within is) in
    any_more test (map f xs) n (f x) old new (slice_get_within (map f xs) n (f x) at) (sym (get_or_from_slice_get (map f xs) n (f x) (f x) at)) was made

-- a fault where another test, which is the same, passes
pub gathers_if : {a b : Bool} {at : ℕ} {of : SpecFaultKind} {old new : Found} → a ≡ b → Gathers old new (IsFaultWhere (IsTrue a) at of) → Gathers old new (IsFaultWhere (IsTrue b) at of)
gathers_if {at = at} {of = of} {old = old} {new = new} e g = subst (λ (c : Bool). Gathers old new (IsFaultWhere (IsTrue c) at of)) e g
