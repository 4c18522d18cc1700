use Rattle.std.proofs.Common.{rules, refl, sym, ap, ◌∙◌}
use Rattle.std.proofs.lemmas.Result.{IfOk-weaker, on_ok_weaker}
use Rattle.flow_syntax.specs.declared.expr.ExprKind.TheVariants as exprs
use Rattle.flow_syntax.specs.Scopes.{with_variable}
use Rattle.check_exprs.specs.inner.Plans.{expected_argument}
use Rattle.check_exprs.specs.inner.Scoping.{scope_of}
use Rattle.expr_typing.specs.Views.{inferred_of, expected_of}
use Rattle.check_exprs.proofs.Arguments.{arguments_next, each_next}
use Rattle.check_exprs.proofs.Finding.{got}
use Rattle.check_exprs.proofs.Forms.{bind_left, checked_bind, checked_call, checked_choose, checked_leaf, checked_map_of, checked_member, checked_three, checked_two, leaf_name, leaf_value, listed_form, none_there, one_there, over_elements, three_of, two_of}
use Rattle.check_exprs.proofs.Parts.{none_noted, part_before, whole_checked}
use Rattle.check_exprs.proofs.walk.+check.Goals as goal

pub check-returns : goal.check-returns
check-returns t c =
    whole_checked c.args.cx.now.spec.now (scope_of c.args.scope.now) (expected_of c.args.expected.now) c.args.expr.now _ _ c.in_ok-at.ensures.at c.in_ok-at.ensures.held refl c.in_ok-inferred.ensures c.note_own.ensures c.outside-inferred.ensures
    c.in_ok-typing.ensures c.set_type.ensures

pub note_bind-returns : goal.note_bind-returns
note_bind-returns t c =
    let is = c.in-Bind.is ∙ ap (λ a. exprs.Bind c.in-Bind.name a c.in-Bind.body) (sym c.get.ensures) ∙ ap (exprs.Bind c.in-Bind.name c.get.result.now) (sym c.get-2.ensures) in
    on_ok_weaker c.note_second.result
    (checked_bind c.args.cx.now.spec.now (scope_of c.args.scope.now) (expected_of c.args.expected.now) c.args.expr.now c.in-Bind.name _ _ _ is c.in_ok-inferred.ensures
    (c.inner_scope-inner.ensures ∙ ap (with_variable (scope_of c.args.scope.now) c.in-Bind.name) c.flat_sort.ensures)) c.note_second.ensures

pub note_choose-returns : goal.note_choose-returns
note_choose-returns t c =
    let is = c.in-Choose.is ∙ ap (λ a. exprs.Choose a c.in-Choose.name c.in-Choose.from c.in-Choose.condition) (sym c.get-2.ensures) ∙ ap (λ a. exprs.Choose c.get-2.result.now c.in-Choose.name a c.in-Choose.condition) (sym c.get.ensures) in
    on_ok_weaker c.note_condition.result
    (checked_choose c.args.cx.now.spec.now (scope_of c.args.scope.now) (expected_of c.args.expected.now) c.args.expr.now _ c.in-Choose.name _ c.in-Choose.condition _ _ is c.count-start.ensures c.in_ok-inferred.ensures
    (c.inner_scope-inner.ensures ∙ ap (with_variable (scope_of c.args.scope.now) c.in-Choose.name) c.chosen_sort.ensures) c.in_ok-note_before.ensures) c.note_condition.ensures

pub note_before-returns : goal.note_before-returns
note_before-returns t c = part_before c.args.cx.now.spec.now _ c.args.start _ c.count-middle.ensures c.in_ok-note_second.ensures refl c.put_behind.ensures

pub note_condition-returns-in-None : goal.note_condition-returns-in-None
note_condition-returns-in-None t c = none_there c.args.cx.now.spec.now (scope_of c.args.scope.now) _ c.args.condition.now c.in-None.is

pub note_condition-returns-in-Some : goal.note_condition-returns-in-Some
note_condition-returns-in-Some t c = on_ok_weaker c.note_third.result (one_there c.args.cx.now.spec.now (scope_of c.args.scope.now) _ c.args.condition.now _ _ c.in-Some.is c.get.ensures) c.note_third.ensures

pub note_member-returns : goal.note_member-returns
note_member-returns t c =
    let is = c.in-Member.is ∙ ap (λ a. exprs.Member a c.in-Member.set) (sym c.get-2.ensures) ∙ ap (exprs.Member c.get-2.result.now) (sym c.get.ensures) in
    on_ok_weaker c.note_before.result
    (checked_member c.args.cx.now.spec.now (scope_of c.args.scope.now) (expected_of c.args.expected.now) c.args.expr.now _ _ _ is c.count-start.ensures c.in_ok-inferred.ensures) c.note_before.ensures

pub note_arguments-loop-at-init : goal.note_arguments-loop-at-init
note_arguments-loop-at-init t c = none_noted c.args.cx.now.spec.now c.args.notes.now

pub note_each-loop-expr-init : goal.note_each-loop-expr-init
note_each-loop-expr-init t c = none_noted c.args.cx.now.spec.now c.args.notes.now

pub check_parts-returns-in-Top : goal.check_parts-returns-in-Top
check_parts-returns-in-Top t c =
    IfOk-weaker _ _ _ (λ answer is. checked_leaf c.args.cx.now.spec.now (scope_of c.args.scope.now) (expected_of c.args.expected.now) c.args.expr.now (inferred_of answer) (leaf_name c.args.expr.now.kind c.in-Top.is) is) c.infer_leaf.ensures

pub check_parts-returns-in-Int : goal.check_parts-returns-in-Int
check_parts-returns-in-Int t c =
    IfOk-weaker _ _ _ (λ answer is. checked_leaf c.args.cx.now.spec.now (scope_of c.args.scope.now) (expected_of c.args.expected.now) c.args.expr.now (inferred_of answer) (leaf_value c.args.expr.now.kind c.in-Int.is) is) c.infer_leaf-in-Int.ensures

pub check_parts-returns-in-Call : goal.check_parts-returns-in-Call
check_parts-returns-in-Call t c =
    IfOk-weaker _ _ _ (λ answer h. checked_call c.args.cx.now.spec.now (scope_of c.args.scope.now) (expected_of c.args.expected.now) c.args.expr.now c.in-Call.name _ _ (inferred_of answer) c.in-Call.is c.as_slice.ensures h) c.check_call.ensures

pub check_parts-check_list-requires : goal.check_parts-check_list-requires
check_parts-check_list-requires t c = (search rules, (c.requires, listed_form c.args.expr.now c.in-SetOf.is))

pub check_parts-check_over_elements-requires : goal.check_parts-check_over_elements-requires
check_parts-check_over_elements-requires t c = (search rules, (c.requires, over_elements c.args.expr.now c.in-Member.is))

pub check_over_elements-note_bind-requires : goal.check_over_elements-note_bind-requires
check_over_elements-note_bind-requires t c = (search rules, (c.requires.names, bind_left c.args.expr.now c.requires.form c.in_default.not-Member c.in_default.not-Choose))

pub check_list-returns-in_ok-note_expecting-in-MapOf-2 :
    goal.check_list-returns-in_ok-note_expecting-in-MapOf-2
check_list-returns-in_ok-note_expecting-in-MapOf-2 t c =
    let is = c.in-MapOf.is ∙ ap (λ ks. exprs.MapOf ks c.in-MapOf.values) (sym c.as_slice-in-MapOf.ensures) ∙ ap (exprs.MapOf c.as_slice-in-MapOf.result.now) (sym c.as_slice-in-MapOf-2.ensures) in
    checked_map_of c.args.cx.now.spec.now (scope_of c.args.scope.now) (expected_of c.args.expected.now) c.args.expr.now _ _ _ _ is c.in_ok-expected_type-in-MapOf.ensures c.in_ok-note_expecting-in-MapOf.ensures
    c.in_ok-expected_type-in-MapOf-2.ensures c.in_ok-note_expecting-in-MapOf-2.ensures

pub check_parts-returns-in_ok-note_third-in-Update :
    goal.check_parts-returns-in_ok-note_third-in-Update
check_parts-returns-in_ok-note_third-in-Update t c =
    IfOk-weaker _ _ _
    (λ answer is. checked_three c.args.cx.now.spec.now (scope_of c.args.scope.now) (expected_of c.args.expected.now) c.args.expr.now _ _ _ (inferred_of answer)
    (three_of c.args.expr.now.kind _ _ _ _ _ _ c.get.ensures c.get-in-Update.ensures c.get-in-Update-2.ensures c.in-Update.is) c.in_ok-first-in-Update.ensures c.in_ok-second-in-Update.ensures c.in_ok-note_third-in-Update.ensures is)
    c.infer_two.ensures

pub check_parts-returns-in_ok-second-in-Both : goal.check_parts-returns-in_ok-second-in-Both
check_parts-returns-in_ok-second-in-Both t c =
    IfOk-weaker _ _ _
    (λ answer is. checked_two c.args.cx.now.spec.now (scope_of c.args.scope.now) (expected_of c.args.expected.now) c.args.expr.now _ _ (inferred_of answer)
    (two_of c.args.expr.now.kind _ _ _ _ c.get-in-Both.ensures c.get-in-Both-2.ensures c.in-Both.is) c.in_ok-first-in-Both.ensures c.in_ok-second-in-Both.ensures is)
    c.infer_two-in-Both.ensures

pub note_arguments-loop-at-preserved : goal.note_arguments-loop-at-preserved
note_arguments-loop-at-preserved t c =
    arguments_next c.args.cx.now.spec.now (scope_of c.args.scope.now) c.args.declared.now c.args.given.now c.loop-at.at c.index-given-at.result _ c.loop-at-test.true c.index-given-at.is
    (ap expected_argument (got _ _ _ c.get.ensures.lookup.0 c.get.ensures.lookup.1)) c.loop-at.invariant c.in_ok-note_argument.ensures

pub note_each-loop-expr-preserved : goal.note_each-loop-expr-preserved
note_each-loop-expr-preserved t c =
    each_next c.args.cx.now.spec.now (scope_of c.args.scope.now) (expected_of c.args.expected.now) c.args.exprs.now c.loop-expr.expr-index c.expr-item.result c.loop-expr-test.true c.expr-item.is c.loop-expr.invariant c.in_ok-note.ensures
