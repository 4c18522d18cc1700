use Rattle.std.proofs.Common.{sym, ap, ◌∙◌}
use Rattle.flow_modes.specs.inner.Table.{choose_mode, member_mode, two_mode}
use Rattle.flow_syntax.specs.Expressions.{expr_layer}
use Rattle.flow_syntax.specs.declared.expr.ExprKind.TheVariants as exprs
use Rattle.flow_modes.proofs.Forms.{two_of, three_of, two_walked, three_walked, call_walked, set_walked, map_walked, member_walked, choice_walked}
use Rattle.flow_modes.proofs.Walks.{next_walked}
use Rattle.flow_modes.proofs.walk.+walk.Goals as goal

pub choice_walked-returns : goal.choice_walked-returns
choice_walked-returns t c =
    let first = c.walked-first.result in
    let second = c.walked-second.result in
    let third = c.condition_walked-third.result in
    choice_walked c.args.e.now c.args.types.now c.in-Choose.element c.in-Choose.set c.get.result.now c.get-2.result.now c.in-Choose.field-1 c.in-Choose.condition first.0 second.0 third.0 c.choose_mode.result
    c.behind_first.result.now first.1.now second.1.now third.1.now c.in-Choose.is c.get.ensures c.get-2.ensures c.behind_first.ensures c.walked-first.ensures c.walked-second.ensures c.condition_walked-third.ensures
    (c.choose_mode.ensures ∙ ap (λ b. choose_mode b first.0 second.0 third.0) c.begins_with_must.ensures)

pub map_walked-returns : goal.map_walked-returns
map_walked-returns t c =
    let first = c.all_walked-first.result in
    let second = c.all_walked-second.result in
    map_walked c.args.e.now c.args.types.now c.in-MapOf.keys c.in-MapOf.values c.as_slice.result.now c.as_slice-2.result.now first.0 second.0 c.needs.result c.behind_first.result.now first.1.now second.1.now
    c.in-MapOf.is c.as_slice.ensures c.as_slice-2.ensures c.behind_first.ensures c.all_walked-first.ensures c.all_walked-second.ensures c.needs.ensures

pub member_walked-returns : goal.member_walked-returns
member_walked-returns t c =
    let first = c.walked-first.result in
    let second = c.walked-second.result in
    let is = c.in-Member.is ∙ ap (λ a. exprs.Member a c.in-Member.set) (sym c.get.ensures) ∙ ap (exprs.Member c.get.result.now) (sym c.get-2.ensures) in
    member_walked c.args.e.now c.args.types.now c.get.result.now c.get-2.result.now first.0 second.0 c.member_mode.result c.behind_first.result.now first.1.now second.1.now
    is c.behind_first.ensures c.walked-first.ensures c.walked-second.ensures (c.member_mode.ensures ∙ ap (λ b. member_mode b first.0 second.0) c.begins_with_must.ensures)

pub walked-returns-in-Call : goal.walked-returns-in-Call
walked-returns-in-Call t c =
    call_walked c.args.e.now c.args.types.now c.in-Call.field-0 c.in-Call.arguments c.as_slice.result.now c.all_walked.result.0 c.behind_first-rest.result.now c.all_walked.result.1.now
    c.in-Call.is c.as_slice.ensures c.behind_first-rest.ensures c.all_walked.ensures

pub walked-returns-in-SetOf : goal.walked-returns-in-SetOf
walked-returns-in-SetOf t c =
    let all = c.all_walked-mode.result in
    set_walked c.args.e.now c.args.types.now c.in-SetOf.elements c.as_slice-in-SetOf.result.now all.0 c.needs.result c.behind_first-rest.result.now all.1.now
    c.in-SetOf.is c.as_slice-in-SetOf.ensures c.behind_first-rest.ensures c.all_walked-mode.ensures c.needs.ensures

pub walked-returns-in-Update : goal.walked-returns-in-Update
walked-returns-in-Update t c =
    let first = c.walked-first.result in
    let second = c.walked-second.result in
    let third = c.walked-third.result in
    three_walked c.args.e.now c.args.types.now c.get.result.now c.get-in-Update.result.now c.get-in-Update-2.result.now first.0 second.0 third.0 c.three_mode.result c.behind_first-rest.result.now first.1.now second.1.now third.1.now
    (three_of c.args.e.now.kind _ _ _ _ _ _ c.get.ensures c.get-in-Update.ensures c.get-in-Update-2.ensures c.in-Update.is)
    c.behind_first-rest.ensures c.walked-first.ensures c.walked-second.ensures c.walked-third.ensures c.three_mode.ensures

pub walked-returns-in-Both : goal.walked-returns-in-Both
walked-returns-in-Both t c =
    let first = c.walked-first-in-Both.result in
    let second = c.walked-second-in-Both.result in
    two_walked c.args.e.now c.args.types.now c.get-in-Both.result.now c.get-in-Both-2.result.now first.0 second.0 c.two_mode.result c.behind_first-rest.result.now first.1.now second.1.now
    (two_of c.args.e.now.kind _ _ _ _ c.get-in-Both.ensures c.get-in-Both-2.ensures c.in-Both.is)
    c.behind_first-rest.ensures c.walked-first-in-Both.ensures c.walked-second-in-Both.ensures
    (c.two_mode.ensures ∙ ap (λ b. two_mode (expr_layer c.args.e.now) b first.0 second.0) c.begins_with_must.ensures)

pub all_walked-loop-e-preserved : goal.all_walked-loop-e-preserved
all_walked-loop-e-preserved t c =
    next_walked c.args.es.now c.loop-e.e-index c.e-item.result c.args.types.now c.loop-e.rest.now c.walked-mode.result.1.now c.loop-e.all c.walked-mode.result.0 c.combined-all.result c.loop-e-test.true c.e-item.is c.loop-e.invariant c.walked-mode.ensures
    c.combined-all.ensures
