-- What a set of numbers keeps.
use Rattle.std.specs.Prelude.{◌≡◌, ℕ, nat_eq, Bool, true, false, List, slice_index_or}
use Rattle.list_theory.specs.Lists.{has, distinct}

-- no item is there twice, and the marks say of each number whether it is there
pub record IsNumberSet (items : List ℕ) (marks : List Bool) : Type 0 where
  pub once : distinct nat_eq items ≡ true
  pub marked : (x : ℕ) → slice_index_or marks x false ≡ has nat_eq items x
