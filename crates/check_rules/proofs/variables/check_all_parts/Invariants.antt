use Rattle.check_base.specs.Earliest.{Gathers, FirstHave}
use Rattle.check_rules.specs.Faults.{HasLoosePart}
use Rattle.check_rules.proofs.variables.check_all_parts.Given as goal

abbrev pub invariant-loop-message : goal.invariant-loop-message
invariant-loop-message l = Gathers l.fn.earliest l.earliest (FirstHave (λ k. HasLoosePart) l.message-index l.messages)
