use Rattle.check_rules.proofs.Heads.{first_more}
use Rattle.check_rules.proofs.head.first_of_each.Goals as goal

pub loop-variable-preserved : goal.loop-variable-preserved
loop-variable-preserved c = λ x. first_more c.args.variables.now c.loop-variable.variable-index c.variable-item.result x _ _ c.loop-variable-test.true c.variable-item.is (c.loop-variable.invariant x) (c.in_ok-put_first.ensures x)
