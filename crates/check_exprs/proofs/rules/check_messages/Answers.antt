use Rattle.std.proofs.Common.{arith}
use Rattle.check_base.proofs.GathersLaws.{Gathers-all, Gathers-start}
use Rattle.check_exprs.proofs.Listed.{Lists-none}
use Rattle.check_exprs.proofs.Occurrences.{gathers_more, messages_listed}
use Rattle.check_exprs.proofs.rules.check_messages.Goals as goal

pub loop-message-init : goal.loop-message-init
loop-message-init c = record { gathers = Gathers-start c.args.messages.now _; lists = Lists-none c.args.cx.now.spec.now _ }

pub loop-message-preserved : goal.loop-message-preserved
loop-message-preserved c = record {
  gathers = gathers_more c.args.messages.now c.loop-message.message-index c.message-item.result c.loop-message-test.true c.message-item.is c.loop-message.invariant.gathers c.in_ok-check_message.ensures.gathers;
  lists = messages_listed c.args.cx.now.spec.now c.args.messages.now c.loop-message.message-index c.message-item.result c.loop-message-test.true c.message-item.is c.loop-message.invariant.lists c.in_ok-check_message.ensures.lists;
}

pub returns-clause-gathers : goal.returns-clause-gathers
returns-clause-gathers c = Gathers-all c.args.messages.now _ (omega arith) c.loop-message.invariant.gathers
