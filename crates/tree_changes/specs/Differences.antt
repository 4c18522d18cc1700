-- What one of two things has and the other hasn't.
use Rattle.std.specs.Prelude.{◌⊎◌, List, Contains}

-- The list has exactly what P holds of and Q doesn't. The second half is said without a negation: whatever P holds of is in
-- the list, or Q holds of it too.
pub record IsDifference {X : Type 0} (P Q : X → Type 0) (list : List X) : Type 0 where
  pub only : (x : X) → Contains list x → P x × (Q x → ⊥)
  pub all : (x : X) → P x → Contains list x ⊎ Q x
