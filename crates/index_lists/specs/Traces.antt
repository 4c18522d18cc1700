-- Steps of a solver, each a target and a key.
use Rattle.std.specs.Prelude.{◌≡◌, ℕ, nat_eq, Bool, not, true, List}
use Rattle.list_theory.specs.Lists.{distinct}
use Rattle.linked_lists.specs.Chains.{Lists}
use Rattle.index_lists.specs.Records.{AreGrouped, first, numbers}

-- whether a step has another target
abbrev pub aims_elsewhere : ℕ → ℕ × ℕ → Bool
aims_elsewhere target step = not (nat_eq step.0 target)

-- Each step is in the list of its target, and no number is there twice.
pub record IsTrace (entries : List (ℕ × (ℕ × ℕ))) (by_target : Lists) : Type 0 where
  pub grouped : AreGrouped first entries by_target
  pub once : distinct nat_eq (numbers entries) ≡ true
