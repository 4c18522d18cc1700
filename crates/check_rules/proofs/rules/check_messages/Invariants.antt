use Rattle.check_base.specs.Earliest.{Gathers, FirstHave}
use Rattle.check_rules.specs.Faults.{HasFaultyMessage}
use Rattle.check_rules.proofs.rules.check_messages.Given as goal

abbrev pub invariant-loop-message : goal.invariant-loop-message
invariant-loop-message l = Gathers l.fn.earliest l.earliest (FirstHave (λ k. HasFaultyMessage l.spec) l.message-index l.messages)
