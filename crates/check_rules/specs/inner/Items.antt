-- Items by tests.
use Rattle.std.specs.Prelude.{ℕ, ◌+◌, ◌||◌, Bool, false, not, nat_lt, List, bytes_eq}
use Rattle.flow_syntax.specs.declared.rule.ItemKind.{ItemKind}
use Rattle.flow_syntax.specs.declared.rule.ItemKind.TheVariants as item

-- whether an item can't stand at this place of a chain with so many items
abbrev pub is_misplaced : Bool → ℕ → ℕ → ItemKind → Bool
is_misplaced root count at item.Entry = root || nat_lt 0 at
is_misplaced root count at item.Exit = root || nat_lt (at + 1) count
is_misplaced root count at item.Start = not root || nat_lt 0 at
is_misplaced root count at item.End = not root || nat_lt (at + 1) count
is_misplaced root count at _ = false

-- whether an item names the argument x as itself
abbrev pub is_whole : List ℕ → ItemKind → Bool
is_whole x (item.Whole y) = bytes_eq x y
is_whole x _ = false

-- whether an item names the argument x as its node
abbrev pub is_single : List ℕ → ItemKind → Bool
is_single x (item.Single y) = bytes_eq x y
is_single x _ = false
