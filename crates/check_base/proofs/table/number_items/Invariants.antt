use Rattle.std.proofs.Common.{◌≡◌, ℕ, List, take}
use Rattle.std.specs.List.{list_any, position_from}
use Rattle.check_base.specs.Names.{is_called}
use Rattle.check_base.specs.Tables.{value_in}
use Rattle.check_base.proofs.table.number_items.Given as goal

abbrev pub invariant-loop-number : goal.invariant-loop-number
invariant-loop-number l = (x : List ℕ) → value_in l.table x ≡ position_from (λ d. list_any (is_called x) d.items) 0 (take l.number l.enums)
