use Rattle.std.proofs.Common.{ap}
use Rattle.std.specs.List.{list_any}
use Rattle.check_base.specs.Names.{is_called}
use Rattle.check_base.proofs.TableLemmas.{position_from-next}
use Rattle.check_base.proofs.table.number_elements.Goals as goal

pub loop-number-preserved : goal.loop-number-preserved
loop-number-preserved c = λ x. position_from-next (λ d. list_any (is_called x) d.elements) c.args.lattices.now c.loop-number.number c.index-lattices-number.result _ _ _ c.loop-number-test.true c.index-lattices-number.is
    (c.loop-number.invariant x) (ap (list_any (is_called x)) c.as_slice.ensures) (c.in_ok-put_each.ensures x)
