use Rattle.std.proofs.Common.{sym, ◌∙◌}
use Rattle.check_trees.proofs.IndexLemmas.{hit, pass}
use Rattle.check_trees.proofs.constructors.with_count.Goals as goal

pub returns-in-Some : goal.returns-in-Some
returns-in-Some c = hit c.args.constructors.now c.args.numbers.now c.loop-number.number-index c.args.count c.loop-number-test.true c.in-Some.constructor.now (sym c.in-Some.ensures) ∙ c.loop-number.invariant

pub loop-number-preserved : goal.loop-number-preserved
loop-number-preserved c = pass c.args.constructors.now c.args.numbers.now c.loop-number.number-index c.args.count c.loop-number-test.true (sym c.in_default.ensures) ∙ c.loop-number.invariant
