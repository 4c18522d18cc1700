use Rattle.std.proofs.Common.{arith}
use Rattle.check_base.proofs.GathersLaws.{Gathers-all, Gathers-read}
use Rattle.check_rules.proofs.variables.note_all_rebound.Goals as goal

pub loop-whole-preserved : goal.loop-whole-preserved
loop-whole-preserved g c = Gathers-read c.args.wholes.now c.loop-whole.whole-index c.whole-item.result c.loop-whole-test.true c.whole-item.is c.loop-whole.invariant c.in_ok-note_rebound.ensures

pub returns : goal.returns
returns g c = Gathers-all c.args.wholes.now _ (omega arith) c.loop-whole.invariant
