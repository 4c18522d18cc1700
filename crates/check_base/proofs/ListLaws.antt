-- What lists of no item and of one item contain.
use Rattle.std.proofs.Common.{◌≡◌, ◌<◌, [], ◌∷◌, inl, inr, arith}
use Rattle.std.specs.Prelude.{Contains}
use Rattle.std.proofs.lemmas.List.Elements.{Contains-push_cases}

pub in_none : {X : Type 0} (x : X) → ¬ Contains [] x
in_none x h = let within : h.0 < 0 = h.1 in absurd (omega arith)

pub in_one : {X : Type 0} (y x : X) → Contains (y ∷ []) x → y ≡ x
in_one y x h = elim (Contains-push_cases [] y x h) [ inl none ↦ absurd (in_none x none) | inr same ↦ same ]
