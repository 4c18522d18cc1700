use Rattle.std.proofs.Common.{◌≡◌, true, inl, inr, sym, ap, subst, ◌∙◌}
use Rattle.flow_syntax.specs.declared.expr.ExprKind.{out-ExprKind}
use Rattle.flow_syntax.specs.declared.expr.ExprKind.TheOpen.{ExprKind-F}
use Rattle.flow_syntax.proofs.ExprLayers.{layer_of_set2}
use Rattle.simple_rules.specs.inner.Forms.{HasForm}
use Rattle.simple_rules.proofs.FormLemmas.{form_of_difference, form_of_joined, is_joining}
use Rattle.simple_rules.proofs.form.+form_of.Goals as goal

pub returns-in-Minus : goal.returns-in-Minus
returns-in-Minus t c =
    subst (λ f. HasForm c.args.e.now f) (sym c.without.ensures) (form_of_difference c.args.e.now c.in-Set2.a c.in-Set2.b
    (ap out-ExprKind c.in-Set2.is ∙ layer_of_set2 c.in-Set2.operation c.in-Set2.a c.in-Set2.b ∙ ap (λ o. ExprKind-F.Set2 o c.in-Set2.a c.in-Set2.b) c.in-Minus.is)
    c.form_of.result c.form_of-in-Minus.result
    (subst (λ x. HasForm x c.form_of.result) c.get.ensures c.form_of.ensures) (subst (λ x. HasForm x c.form_of-in-Minus.result) c.get-in-Minus.ensures c.form_of-in-Minus.ensures))

pub returns-in-Join : goal.returns-in-Join
returns-in-Join t c =
    let joins : is_joining c.in-Set2.operation ≡ true = elim c.in-Join.is [ inl w ↦ ap is_joining w | inr w ↦ ap is_joining w ] in
    subst (λ f. HasForm c.args.e.now f) (sym c.joined.ensures) (form_of_joined c.args.e.now c.in-Set2.a c.in-Set2.b c.in-Set2.operation
    (ap out-ExprKind c.in-Set2.is ∙ layer_of_set2 c.in-Set2.operation c.in-Set2.a c.in-Set2.b) joins
    c.form_of-in-Join.result c.form_of-in-Join-2.result
    (subst (λ x. HasForm x c.form_of-in-Join.result) c.get-in-Join.ensures c.form_of-in-Join.ensures) (subst (λ x. HasForm x c.form_of-in-Join-2.result) c.get-in-Join-2.ensures c.form_of-in-Join-2.ensures))
