use Rattle.std.proofs.Common.{ap, length, bytes_eq}
use Rattle.std.specs.Prelude.{◌==◌, ◌&&◌}
use Rattle.check_base.specs.Names.{is_called}
use Rattle.check_base.proofs.TableLemmas.{position_from-next}
use Rattle.check_base.proofs.table.number_shapes.Goals as goal

pub loop-number-preserved : goal.loop-number-preserved
loop-number-preserved c = λ x n. position_from-next (λ d. is_called x d.name && (n == length d.args)) c.args.constructors.now c.loop-number.number c.index-constructors-number.result _ _ _ c.loop-number-test.true
    c.index-constructors-number.is
    (c.loop-number.invariant x n) (ap (λ m. bytes_eq x c.index-constructors-number.result.name.text && (n == m)) c.len-count.ensures) (c.in_ok-put_first_shape.ensures x n)
