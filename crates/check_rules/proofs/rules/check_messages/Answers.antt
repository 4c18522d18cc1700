use Rattle.std.proofs.Common.{arith}
use Rattle.check_base.proofs.GathersLaws.{Gathers-all, Gathers-read}
use Rattle.check_rules.proofs.rules.check_messages.Goals as goal

pub loop-message-preserved : goal.loop-message-preserved
loop-message-preserved c = Gathers-read c.args.messages.now c.loop-message.message-index c.message-item.result c.loop-message-test.true c.message-item.is c.loop-message.invariant c.check_pattern.ensures

pub returns : goal.returns
returns c = Gathers-all c.args.messages.now _ (omega arith) c.loop-message.invariant
