use Rattle.std.proofs.Common.{refl, ap, ◌∙◌}
use Rattle.flow_syntax.specs.declared.expr.ExprKind.{out-ExprKind}
use Rattle.flow_syntax.specs.declared.expr.ExprKind.TheOpen.{ExprKind-F}
use Rattle.flow_syntax.proofs.ExprLayers.{layer_of_read}
use Rattle.simple_rules.proofs.FormLemmas.{form_of_read}
use Rattle.simple_rules.proofs.form.form_by_reads.Goals as goal

pub returns-in-Read : goal.returns-in-Read
returns-in-Read c = form_of_read c.args.e.now (ExprKind-F.Read c.in-Read.field-0 c.in-Read.field-1) (ap out-ExprKind c.in-Read.is ∙ layer_of_read c.in-Read.field-0 c.in-Read.field-1) refl
