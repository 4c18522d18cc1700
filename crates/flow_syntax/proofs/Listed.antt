-- Elements of lists, by their numbers.
use Rattle.std.proofs.Common.{◌≡◌, ℕ, zero, suc, Bool, true, List, [], ◌∷◌, Some, refl, ap, arith, inl, inr}
use Rattle.std.specs.Prelude.{Contains, slice_get}
use Rattle.std.specs.List.{list_any}
use Rattle.std.proofs.lemmas.Bool.{or_cases, or_left, or_right}
use Rattle.std.proofs.lemmas.List.Elements.{Contains-append_right}

-- an element of a list that passes
pub any_at : {X : Type 0} (p : X → Bool) (xs : List X) → list_any p xs ≡ true → (k : ℕ) × (x : X) × (slice_get xs k ≡ Some x) × (p x ≡ true)
any_at p [] h = cc
any_at p (x ∷ xs) h = elim (or_cases (p x) (list_any p xs) h) [
  | inl here ↦ (zero, x, refl, here)
  | inr later ↦ (let found = any_at p xs later in (suc found.0, found.1, found.2, found.3))
]

-- a list with such an element
pub at_any : {X : Type 0} (p : X → Bool) (xs : List X) (k : ℕ) (x : X) → slice_get xs k ≡ Some x → p x ≡ true → list_any p xs ≡ true
at_any p [] k x e h = cc
at_any p (y ∷ ys) zero x e h = let same : y ≡ x = cc in or_left (p y) (list_any p ys) (rw same h)
at_any p (y ∷ ys) (suc k) x e h = or_right (p y) (list_any p ys) (at_any p ys k x e h)

-- an element stands at a number
pub at_in : {X : Type 0} (xs : List X) (k : ℕ) (x : X) → slice_get xs k ≡ Some x → Contains xs x
at_in [] k x e = cc
at_in (y ∷ ys) zero x e = (zero, omega arith, cc)
at_in (y ∷ ys) (suc k) x e = let c = at_in ys k x e in (suc c.0, omega (arith, c.1), c.2)

pub in_at : {X : Type 0} (xs : List X) (x : X) → Contains xs x → (k : ℕ) × (slice_get xs k ≡ Some x)
in_at [] x (k, l, e) = absurd (omega arith)
in_at (y ∷ ys) x (zero, l, e) = (zero, ap Some e)
in_at (y ∷ ys) x (suc k, l, e) = let c = in_at ys x (k, omega arith, e) in (suc c.0, c.1)

-- a list with an element that passes
pub in_any : {X : Type 0} (p : X → Bool) (xs : List X) (x : X) → Contains xs x → p x ≡ true → list_any p xs ≡ true
in_any p xs x c h = let k = in_at xs x c in at_any p xs k.0 x k.1 h

-- the first item of a list, and an item behind it
pub Contains_here : {X : Type 0} (x : X) (xs : List X) → Contains (x ∷ xs) x
Contains_here x xs = (0, omega arith, refl)

pub Contains_behind : {X : Type 0} (x : X) (xs : List X) (y : X) → Contains xs y → Contains (x ∷ xs) y
Contains_behind x xs y h = Contains-append_right (x ∷ []) xs y h
