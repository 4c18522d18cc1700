-- Pairs under numbers of their own, in order of adding, and their lists by a key.
use Rattle.std.specs.Prelude.{◌≡◌, ◌<◌, ◌≤◌, ℕ, nat_eq, Bool, true, not, if◌then◌else◌, List, [], ◌∷◌, length, map, filter, is_some, unwrap_or}
use Rattle.slab.specs.Slab.{Slab, get}
use Rattle.list_theory.specs.Lists.{distinct, has}
use Rattle.linked_lists.specs.Chains.{Lists, list_in}

-- the pairs, each behind its number; how many more fit without memory; the number below which all numbers given are;
-- and the number below which those are that have a place in the order
pub record Records : Type 0 where
  pub entries : List (ℕ × (ℕ × ℕ))
  pub spare : ℕ
  pub capacity : ℕ
  pub linked : ℕ

-- the numbers of all pairs
abbrev pub numbers : List (ℕ × (ℕ × ℕ)) → List ℕ
numbers entries = map (λ (e : ℕ × (ℕ × ℕ)). e.0) entries

-- the pairs without their numbers
abbrev pub pairs : List (ℕ × (ℕ × ℕ)) → List (ℕ × ℕ)
pairs entries = map (λ (e : ℕ × (ℕ × ℕ)). e.1) entries

-- the pair with a number; two zeros where there is none
abbrev pub pair_of : List (ℕ × (ℕ × ℕ)) → ℕ → ℕ × ℕ
pair_of [] n = (0, 0)
pair_of (e ∷ rest) n = if nat_eq e.0 n then e.1 else pair_of rest n

-- the pair with a number, behind its number
abbrev pub entry_of : List (ℕ × (ℕ × ℕ)) → ℕ → ℕ × (ℕ × ℕ)
entry_of entries n = (n, pair_of entries n)

-- the pairs without the one that has a number
abbrev pub without_number : List (ℕ × (ℕ × ℕ)) → ℕ → List (ℕ × (ℕ × ℕ))
without_number entries n = filter (λ e. not (nat_eq e.0 n)) entries

-- whether a pair has this key
abbrev pub has_key : (ℕ × ℕ → ℕ) → ℕ → ℕ × (ℕ × ℕ) → Bool
has_key key k e = nat_eq (key e.1) k

-- Each list has the numbers of the pairs with its key, in order of adding.
abbrev pub AreGrouped : (ℕ × ℕ → ℕ) → List (ℕ × (ℕ × ℕ)) → Lists → Type 0
AreGrouped key entries lists = (k : ℕ) → list_in lists k ≡ numbers (filter (has_key key k) entries)

-- the first of two and the second
abbrev pub first : ℕ × ℕ → ℕ
first pair = pair.0

abbrev pub second : ℕ × ℕ → ℕ
second pair = pair.1

-- the pair in a slab
abbrev pub pair_at : Slab (ℕ × ℕ) → ℕ → ℕ × ℕ
pair_at s n = unwrap_or (get s n) (0, 0)

-- the numbers of all pairs, in order of adding
abbrev pub all_in : Lists → List ℕ
all_in order = list_in order 0

-- the pairs in order of adding, each behind its number
abbrev pub entries_in : Slab (ℕ × ℕ) → Lists → List (ℕ × (ℕ × ℕ))
entries_in s order = map (λ n. (n, pair_at s n)) (all_in order)

-- The order is at most one list, and has exactly the numbers that have a pair, each once.
pub record IsOrdered (s : Slab (ℕ × ℕ)) (order : Lists) : Type 0 where
  pub listed : 0 < order.items → 0 < length order.lists
  pub one : length order.lists ≤ 1
  pub once : distinct nat_eq (all_in order) ≡ true
  pub present : (n : ℕ) → has nat_eq (all_in order) n ≡ is_some (get s n)
