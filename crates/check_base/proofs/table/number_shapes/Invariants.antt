use Rattle.std.proofs.Common.{◌≡◌, ℕ, List, take, length}
use Rattle.std.specs.Prelude.{◌==◌, ◌&&◌}
use Rattle.std.specs.List.{position_from}
use Rattle.check_base.specs.Names.{is_called}
use Rattle.check_base.specs.Tables.{shape_in}
use Rattle.check_base.proofs.table.number_shapes.Given as goal

abbrev pub invariant-loop-number : goal.invariant-loop-number
invariant-loop-number l = (x : List ℕ) (n : ℕ) → shape_in l.table x n ≡ position_from (λ c. is_called x c.name && (n == length c.args)) 0 (take l.number l.constructors)
