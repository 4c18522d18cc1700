-- What a queue of numbers is.
use Rattle.std.specs.Prelude.{◌≡◌, ℕ, ◌<◌, ◌≤◌, nat_eq, Bool, true, false, List, length, slice_index_or}
use Rattle.list_theory.specs.Lists.{has, distinct}
use Rattle.linked_lists.specs.Chains.{Lists}
use Rattle.index_lists.specs.Records.{all_in}

-- items in order, each once, and the number below which all items are allowed
pub record Queue : Type 0 where
  pub items : List ℕ
  pub allowed : ℕ

-- One list at most has the items, the marks say of each allowed item whether it is there, and the items are counted.
pub record IsQueue (chain : Lists) (marks : List Bool) (len : ℕ) : Type 0 where
  pub no_repeats : distinct nat_eq (all_in chain) ≡ true
  pub marked : (x : ℕ) → slice_index_or marks x false ≡ has nat_eq (all_in chain) x
  pub counted : len ≡ length (all_in chain)
  pub room : length marks ≤ chain.items
  pub listed : 0 < chain.items → 0 < length chain.lists
  pub one : length chain.lists ≤ 1
