use Rattle.std.proofs.Common.{[], ◌∷◌, ◌++◌, false, map, ◌∙◌, ap, refl, sym, arith}
use Rattle.std.proofs.lemmas.List.{append-nil}
use Rattle.flow_syntax.specs.Binders.{binder}
use Rattle.check_rules.specs.inner.Tables.{known_by, names_at, names_of_choice}
use Rattle.check_rules.proofs.ExprBinders.{at_past, flat_more, choice_with, choice_without, names_bind, names_choose, names_in, names_list, names_map_of, names_of_keys, names_three, names_two, pushed, pushed_behind, pushed_two, turn_more, turns_done}
use Rattle.check_rules.proofs.bindings.+binders.Goals as goal

pub push_binders-returns-in-Call : goal.push_binders-returns-in-Call
push_binders-returns-in-Call t c =
    pushed _ (map known_by c.args.out.now.items) _ _ (names_in c.args.e.now) c.push_binders_of_each.ensures (names_list c.args.e.now c.in-Call.parts _ c.in-Call.is c.as_slice.ensures)

pub push_binders-returns-in-MapOf : goal.push_binders-returns-in-MapOf
push_binders-returns-in-MapOf t c =
    pushed _ (map known_by c.args.out.now.items) _ _ (names_in c.args.e.now) c.push_binders_of_map.ensures (names_map_of c.args.e.now c.in-MapOf.field-0 c.in-MapOf.field-1 c.in-MapOf.is)

pub push_binders-returns-in-Choose : goal.push_binders-returns-in-Choose
push_binders-returns-in-Choose t c =
    pushed _ (map known_by c.args.out.now.items) _ _ (names_in c.args.e.now) c.push_binders_of_choice.ensures
    (names_choose c.args.e.now c.in-Choose.field-0 c.in-Choose.field-1 c.in-Choose.field-2 c.in-Choose.field-3 c.in-Choose.is)

pub push_binders-returns-in-Both : goal.push_binders-returns-in-Both
push_binders-returns-in-Both t c =
    pushed_behind _ (map known_by c.args.out.now.items) (names_in c.get-in-Both.result.now) (names_in c.get-in-Both-2.result.now) _ _ (names_in c.args.e.now) c.in_ok-push_binders-in-Both.ensures c.push_binders-in-Both-2.ensures
    (names_two c.args.e.now c.in-Both.a c.in-Both.b _ _ c.in-Both.is c.get-in-Both.ensures c.get-in-Both-2.ensures)

pub push_binders-returns-in-Update : goal.push_binders-returns-in-Update
push_binders-returns-in-Update t c =
    pushed_behind _ (map known_by c.args.out.now.items) (names_in c.get-in-Update.result.now ++ names_in c.get-in-Update-2.result.now) (names_in c.get-in-Update-3.result.now) _ _ (names_in c.args.e.now)
    (pushed_two (map known_by c.args.out.now.items) (names_in c.get-in-Update.result.now) (names_in c.get-in-Update-2.result.now) _ _ _ c.in_ok-push_binders-in-Update.ensures c.in_ok-push_binders-in-Update-2.ensures refl)
    c.push_binders-in-Update-3.ensures
    (names_three c.args.e.now c.in-Update.a c.in-Update.b c.in-Update.c _ _ _ c.in-Update.is c.get-in-Update.ensures c.get-in-Update-2.ensures c.get-in-Update-3.ensures)

pub push_binders-returns-in-Bind : goal.push_binders-returns-in-Bind
push_binders-returns-in-Bind t c =
    pushed_behind _ (map known_by c.args.out.now.items) (((binder c.in-Bind.name c.args.e.now.place, false) ∷ []) ++ names_in c.get.result.now) (names_in c.get-in-Bind.result.now) _ _ (names_in c.args.e.now)
    (pushed_two (map known_by c.args.out.now.items) ((binder c.in-Bind.name c.args.e.now.place, false) ∷ []) (names_in c.get.result.now) _ _ _ c.in_ok-push_binding-in-Bind.ensures c.in_ok-push_binders-in-Bind.ensures refl)
    c.push_binders-in-Bind.ensures
    (names_bind c.args.e.now c.in-Bind.name c.in-Bind.a c.in-Bind.b _ _ c.in-Bind.is c.get.ensures c.get-in-Bind.ensures)

pub push_binders_of_choice-returns-in-None : goal.push_binders_of_choice-returns-in-None
push_binders_of_choice-returns-in-None t c =
    pushed_two (map known_by c.args.out.now.items) (names_in c.get.result.now ++ (binder c.in-Choose.name c.args.e.now.place, false) ∷ []) (names_in c.get-2.result.now) _ _ (names_of_choice c.args.e.now)
    (pushed_two (map known_by c.args.out.now.items) (names_in c.get.result.now) ((binder c.in-Choose.name c.args.e.now.place, false) ∷ []) _ _ _ c.in_ok-push_binders.ensures c.in_ok-push_binding.ensures refl)
    c.in_ok-push_binders-2.ensures
    (choice_without c.args.e.now c.in-Choose.element c.in-Choose.name c.in-Choose.set _ _ c.in-Choose.condition c.in-Choose.is c.in-None.is c.get.ensures c.get-2.ensures)

pub push_binders_of_choice-returns-in-Some : goal.push_binders_of_choice-returns-in-Some
push_binders_of_choice-returns-in-Some t c =
    pushed_behind _ (map known_by c.args.out.now.items) (names_in c.get.result.now ++ ((binder c.in-Choose.name c.args.e.now.place, false) ∷ []) ++ names_in c.get-2.result.now) (names_in c.get-in-Some.result.now) _ _ (names_of_choice c.args.e.now)
    (pushed_two (map known_by c.args.out.now.items) (names_in c.get.result.now ++ (binder c.in-Choose.name c.args.e.now.place, false) ∷ []) (names_in c.get-2.result.now) _ _ _
    (pushed_two (map known_by c.args.out.now.items) (names_in c.get.result.now) ((binder c.in-Choose.name c.args.e.now.place, false) ∷ []) _ _ _ c.in_ok-push_binders.ensures c.in_ok-push_binding.ensures refl)
    c.in_ok-push_binders-2.ensures refl)
    c.push_binders-in-Some.ensures
    (choice_with c.args.e.now c.in-Choose.element c.in-Choose.name c.in-Choose.set c.in-Some.condition _ _ _ c.in-Choose.condition c.in-Choose.is c.in-Some.is c.get.ensures c.get-2.ensures c.get-in-Some.ensures)

pub push_binders_of_map-loop-at-preserved : goal.push_binders_of_map-loop-at-preserved
push_binders_of_map-loop-at-preserved t c =
    turn_more c.in-MapOf.keys c.in-MapOf.values c.loop-at.at _ _ _ _
    (c.in_ok-push_binders_at.ensures ∙ ap (λ ks. map known_by c.loop-at.out.items ++ names_at ks c.loop-at.at) c.as_slice.ensures)
    (c.in_ok-push_binders_at-2.ensures ∙ ap (λ vs. map known_by c.push_binders_at.new.out.items ++ names_at vs c.loop-at.at) c.as_slice-in-loop-at.ensures)
    c.loop-at.invariant

pub push_binders_of_map-returns : goal.push_binders_of_map-returns
push_binders_of_map-returns t c =
    turns_done c.in-MapOf.keys c.in-MapOf.values c.loop-at.at _ _ (omega arith) (omega arith) c.loop-at.invariant
    ∙ ap (λ ys. map known_by c.args.out.now.items ++ ys) (sym (names_of_keys c.args.e.now c.in-MapOf.keys c.in-MapOf.values c.in-MapOf.is))

pub push_binders_at-returns-else-at-parts : goal.push_binders_at-returns-else-at-parts
push_binders_at-returns-else-at-parts t c =
    sym (ap (λ ys. map known_by c.args.out.now.items ++ ys) (at_past c.args.parts.now c.args.at (omega arith)) ∙ append-nil (map known_by c.args.out.now.items))

pub push_binders_of_each-loop-part-preserved : goal.push_binders_of_each-loop-part-preserved
push_binders_of_each-loop-part-preserved t c = flat_more c.args.parts.now c.loop-part.part-index c.part-item.result _ _ _ c.loop-part-test.true c.part-item.is c.loop-part.invariant c.in_ok-push_binders.ensures
