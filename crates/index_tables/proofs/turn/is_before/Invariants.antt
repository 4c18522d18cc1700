use Rattle.std.proofs.Common.{◌≡◌, false, get_or, take}
use Rattle.std.specs.Prelude.{nat_eq}
use Rattle.list_theory.specs.Lists.{has}
use Rattle.index_tables.proofs.turn.is_before.Given as goal

abbrev pub invariant-loop-earlier : goal.invariant-loop-earlier
invariant-loop-earlier l = has nat_eq (take l.earlier l.places) (get_or l.places l.at 0) ≡ false
