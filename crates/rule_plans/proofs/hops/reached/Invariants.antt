use Rattle.std.proofs.Common.{◌+◌, ◌-◌, length}
use Rattle.rule_plans.specs.Hops.{IsInnerStop, IsHop}
use Rattle.flow_links.proofs.Searches.{IsSearch}
use Rattle.rule_plans.proofs.hops.reached.Given as goal

abbrev pub invariant-loop-next : goal.invariant-loop-next
invariant-loop-next l = IsSearch IsInnerStop (IsHop l.steps l.passes) l.fn.from l.found.keys l.next

abbrev pub decreases-loop-next : goal.decreases-loop-next
decreases-loop-next l = length l.steps + length l.passes - l.next
