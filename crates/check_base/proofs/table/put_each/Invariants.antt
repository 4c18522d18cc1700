use Rattle.std.proofs.Common.{◌≡◌, ℕ, List, take}
use Rattle.std.specs.List.{list_any}
use Rattle.check_base.specs.Names.{is_called}
use Rattle.check_base.specs.Tables.{or_where, value_in}
use Rattle.check_base.proofs.table.put_each.Given as goal

abbrev pub invariant-loop-name : goal.invariant-loop-name
invariant-loop-name l = (x : List ℕ) → value_in l.table x ≡ or_where (value_in l.fn.table x) (list_any (is_called x) (take l.name-index l.names)) l.number
