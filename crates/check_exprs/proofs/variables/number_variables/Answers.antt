use Rattle.std.proofs.Common.{bytes_eq, refl}
use Rattle.check_base.proofs.TableLemmas.{position_from-next}
use Rattle.check_exprs.proofs.variables.number_variables.Goals as goal

pub loop-number-preserved : goal.loop-number-preserved
loop-number-preserved c = λ x. position_from-next (λ v. bytes_eq x v.name.now) c.args.variables.now c.loop-number.number c.index-variables-number.result _ _ _ c.loop-number-test.true c.index-variables-number.is
    (c.loop-number.invariant x) refl (c.in_ok-put_first.ensures x)
