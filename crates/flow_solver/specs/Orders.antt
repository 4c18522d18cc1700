-- In which order keys stand.
use Rattle.std.specs.Prelude.{ℕ, List}
use Rattle.std.specs.declared.cmp.Ordering.{Ordering}
use Rattle.std.specs.Cmp.{IsStrictWeakOrder}
use Rattle.std.specs.List.Sorted.{IsStrictlySortedBy}
use Rattle.std.specs.Ordering.{is_lt}

-- the comparison is one of a weak order over all numbers, and each of the keys is less than those behind it
pub record IsOrderOf (keys : List ℕ) (compare : ℕ → ℕ → Ordering) : Type 0 where
  pub weak : IsStrictWeakOrder (λ a b. is_lt (compare a b))
  pub rising : IsStrictlySortedBy compare keys
