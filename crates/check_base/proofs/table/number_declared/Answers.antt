use Rattle.std.proofs.Common.{ap}
use Rattle.check_base.specs.Names.{is_called}
use Rattle.check_base.proofs.TableLemmas.{position_from-next}
use Rattle.check_base.proofs.table.number_declared.Goals as goal

pub loop-number-preserved : goal.loop-number-preserved
loop-number-preserved g c = λ x. position_from-next (λ d. is_called x (g.D.Declared.declared d)) c.args.declarations.now c.loop-number.number c.index-declarations-number.result _ _ _ c.loop-number-test.true c.index-declarations-number.is
    (c.loop-number.invariant x) (ap (is_called x) c.declared_name.ensures) (c.in_ok-put_first.ensures x)
