use Rattle.std.proofs.Common.{arith}
use Rattle.check_base.proofs.GathersLaws.{Gathers-all, Gathers-read}
use Rattle.check_rules.proofs.variables.note_loose_parts.Goals as goal

pub loop-part-preserved : goal.loop-part-preserved
loop-part-preserved c = Gathers-read c.args.parts.now c.loop-part.part-index c.part-item.result c.loop-part-test.true c.part-item.is c.loop-part.invariant c.note_loose.ensures

pub returns : goal.returns
returns c = Gathers-all c.args.parts.now _ (omega arith) c.loop-part.invariant
