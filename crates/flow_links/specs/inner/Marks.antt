-- Marks of the children that are entered.
use Rattle.std.specs.Prelude.{◌≡◌, ℕ, ◌<◌, ◌||◌, ◌&&◌, Bool, false, List, Option, length, get_or}
use Rattle.std.specs.Option.{option_map_or}
use Rattle.flow_syntax.specs.declared.rule.FlowRule.{FlowRule}
use Rattle.flow_syntax.specs.Control.{enters}

-- The marks are those of the numbers below n of which p holds.
pub record AreMarks (marks : List Bool) (n : ℕ) (p : ℕ → Bool) : Type 0 where
  pub sizes : length marks ≡ n
  pub each : (k : ℕ) → k < n → get_or marks k false ≡ p k

-- The new marks are the old ones and those of which p holds.
pub record Marks (old new : List Bool) (p : ℕ → Bool) : Type 0 where
  pub sizes : length new ≡ length old
  pub each : (k : ℕ) → k < length old → get_or new k false ≡ (get_or old k false || p k)

-- whether the matching rule, by which the position counts, enters the argument of this number
abbrev pub entered_by : Option FlowRule → Bool → ℕ → Bool
entered_by matching entered n = option_map_or (λ rule. (rule.root || entered) && enters rule n) matching false
