use Rattle.std.proofs.Common.{◌≡◌, ℕ, List, take}
use Rattle.std.specs.List.{position_from}
use Rattle.check_base.specs.Names.{is_called}
use Rattle.check_base.specs.Tables.{value_in}
use Rattle.check_base.proofs.table.number_declared.Given as goal

abbrev pub invariant-loop-number : goal.invariant-loop-number
invariant-loop-number g l = (x : List ℕ) → value_in l.table x ≡ position_from (λ d. is_called x (g.D.Declared.declared d)) 0 (take l.number l.declarations)
