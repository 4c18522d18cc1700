use Rattle.std.proofs.Common.{arith}
use Rattle.check_base.proofs.GathersLaws.{Gathers-all, Gathers-read, Gathers-start}
use Rattle.check_rules.proofs.items.check_items.Goals as goal

pub loop-at-init : goal.loop-at-init
loop-at-init c = Gathers-start c.args.items.now c.args.earliest.now

pub loop-at-preserved : goal.loop-at-preserved
loop-at-preserved c = Gathers-read c.args.items.now c.loop-at.at c.index-items-at.result c.loop-at-test.true c.index-items-at.is c.loop-at.invariant c.check_item.ensures

pub returns : goal.returns
returns c = Gathers-all c.args.items.now _ (omega arith) c.loop-at.invariant
