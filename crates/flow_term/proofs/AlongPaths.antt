-- Positions along a path.
use Rattle.std.proofs.Common.{◌≡◌, ℕ, ◌<◌, ◌+◌, List, length, get_or, drop, drop-cons, add-one, refl}
use Rattle.std.specs.Prelude.{option_and_then, slice_get}
use Rattle.flow_term.specs.declared.term.Term.{Term}
use Rattle.flow_term.specs.Trees.{At, children}

-- One step further down the path.
pub At_next : (t : Term) (steps : List ℕ) (i : ℕ) → i < length steps
    → At t (drop i steps) ≡ option_and_then (λ child. At child (drop (i + 1) steps)) (slice_get (children t) (get_or steps i 0))
At_next t steps i h = rw (add-one, drop-cons steps i 0) refl
