-- The first items of a list.
use Rattle.std.proofs.Common.{◌≡◌, ℕ, zero, suc, ◌<◌, List, [], ◌∷◌, take, Some, arith}
use Rattle.std.specs.Prelude.{slice_get}
use Rattle.std.proofs.lemmas.Option.{slice_get_within}

-- an item among the first ones of a list
pub among_first : {X : Type 0} (xs : List X) (k j : ℕ) (x : X) → slice_get (take k xs) j ≡ Some x → (j < k) × (slice_get xs j ≡ Some x)
among_first xs zero j x e = absurd (omega (arith, slice_get_within (take zero xs) j x e))
among_first [] (suc k) j x e = absurd (omega (arith, slice_get_within [] j x e))
among_first (y ∷ ys) (suc k) zero x e = (omega arith, e)
among_first (y ∷ ys) (suc k) (suc j) x e = let rest = among_first ys k j x e in (omega (arith, rest.0), rest.1)

pub first_among : {X : Type 0} (xs : List X) (k j : ℕ) (x : X) → j < k → slice_get xs j ≡ Some x → slice_get (take k xs) j ≡ Some x
first_among xs zero j x before e = absurd (omega arith)
first_among [] (suc k) j x before e = absurd (omega (arith, slice_get_within [] j x e))
first_among (y ∷ ys) (suc k) zero x before e = e
first_among (y ∷ ys) (suc k) (suc j) x before e = first_among ys k j x (omega arith) e
