use Rattle.std.proofs.Common.{◌≡◌, ℕ, List, take, ◌||◌, is_some}
use Rattle.std.specs.List.{list_any}
use Rattle.check_base.specs.Names.{is_called}
use Rattle.check_base.specs.Tables.{value_in}
use Rattle.check_base.proofs.table.number_sorts_of.Given as goal

abbrev pub invariant-loop-constructor : goal.invariant-loop-constructor
invariant-loop-constructor l = (x : List ℕ) → is_some (value_in l.table x) ≡ (is_called x l.signature.start || list_any (λ c. is_called x c.result) (take l.constructor-index l.signature.constructors))
