use Rattle.std.proofs.Common.{length}
use Rattle.check_base.specs.Earliest.{Gathers, FirstHave}
use Rattle.check_rules.specs.Faults.{IsFaultyItem}
use Rattle.check_rules.proofs.items.check_items.Given as goal

abbrev pub invariant-loop-at : goal.invariant-loop-at
invariant-loop-at l = Gathers l.fn.earliest l.earliest (FirstHave (IsFaultyItem l.rule (length l.items)) l.at l.items)
