-- What a list of different things gains.
use Rattle.std.specs.Prelude.{◌⊎◌, ◌↔◌, List, Contains}

-- The new list has what the old one has, and that of which P holds.
pub record Gains {T : Type 0} (old new : List T) (P : T → Type 0) : Type 0 where
  pub each : (x : T) → Contains new x ↔ (Contains old x ⊎ P x)
