use Rattle.flow_syntax.specs.Occurrences.{occurrence}
use Rattle.check_exprs.specs.inner.Scoping.{scope_of}
use Rattle.expr_typing.specs.Views.{expected_of}
use Rattle.check_exprs.proofs.OwnFaults.{own_gathered, mismatch_at}
use Rattle.check_exprs.proofs.own.note_own.Goals as goal

pub returns : goal.returns
returns c =
    own_gathered c.args.cx.now.spec.now (occurrence (scope_of c.args.scope.now) (expected_of c.args.expected.now) c.args.expr.now) _ _ _ _
    (mismatch_at _ _ _ _ _ _ c.form_shape.ensures c.requires.infers c.is_mismatch-is_mismatch.ensures) c.is_undeclared-is_undeclared.ensures c.is_miscounted-is_miscounted.ensures c.is_unbound-is_unbound.ensures
    c.note_if.ensures c.note_if-2.ensures c.note_if-3.ensures c.note_if-4.ensures
