use Rattle.std.proofs.Common.{◌≡◌, subst}
use Rattle.std.specs.Prelude.{IfOk}
use Rattle.flow_syntax.specs.Inferred.{Inferred}
use Rattle.expr_typing.specs.Views.{inferred_of}
use Rattle.check_exprs.proofs.Forms.{made_alone}
use Rattle.check_exprs.proofs.form.infer_two.Goals as goal

pub returns-in_default : goal.returns-in_default
returns-in_default c =
    subst (λ (y : Inferred). IfOk c.infer_made.result (λ t. inferred_of t ≡ y)) (made_alone (inferred_of c.args.first) (inferred_of c.args.second.now) c.args.kind.now c.in_default.not-Update c.in_default.not-Set2) c.infer_made.ensures
