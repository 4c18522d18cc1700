-- The first item that passes a test, by its number.
use Rattle.std.proofs.Common.{◌≡◌, ℕ, ◌+◌, Bool, true, false, cond, List, [], ◌∷◌, ◌++◌, find, length, Some, refl, arith, subst, append_assoc, length-append}
use Rattle.std.specs.Prelude.{slice_get, option_and_then}
use Rattle.std.specs.List.{position_from}

get_at : {X : Type 0} (front : List X) (x : X) (xs : List X) → slice_get (front ++ x ∷ xs) (length front) ≡ Some x
get_at [] x xs = refl
get_at (y ∷ front) x xs = get_at front x xs

module _ {X : Type 0} (p : X → Bool) where
  abbrev Behind : List X → List X → Type 0
  Behind front xs = option_and_then (slice_get (front ++ xs)) (position_from p (length front) xs) ≡ find p xs

  here : (front : List X) (x : X) (xs : List X) (b : Bool) → (b ≡ false → option_and_then (slice_get (front ++ x ∷ xs)) (position_from p (length front + 1) xs) ≡ find p xs)
      → option_and_then (slice_get (front ++ x ∷ xs)) (cond b (Some (length front)) (position_from p (length front + 1) xs)) ≡ cond b (Some x) (find p xs)
  here front x xs true on = get_at front x xs
  here front x xs false on = on refl

  next : (front : List X) (x : X) (xs : List X) → Behind (front ++ x ∷ []) xs → option_and_then (slice_get (front ++ x ∷ xs)) (position_from p (length front + 1) xs) ≡ find p xs
  next front x xs on =
      let longer : (front ++ x ∷ []) ++ xs ≡ front ++ x ∷ xs = append_assoc front (x ∷ []) xs in
      let count : length (front ++ x ∷ []) ≡ length front + 1 = omega (arith, length-append front (x ∷ [])) in
      subst (λ (n : ℕ). option_and_then (slice_get (front ++ x ∷ xs)) (position_from p n xs) ≡ find p xs) count
      (subst (λ (ys : List X). option_and_then (slice_get ys) (position_from p (length (front ++ x ∷ [])) xs) ≡ find p xs) longer on)

  behind : (front xs : List X) → Behind front xs
  behind front [] = refl
  behind front (x ∷ xs) = here front x xs (p x) (λ _. next front x xs (behind (front ++ x ∷ []) xs))

  pub first_is : (xs : List X) → option_and_then (slice_get xs) (position_from p 0 xs) ≡ find p xs
  first_is xs = behind [] xs
