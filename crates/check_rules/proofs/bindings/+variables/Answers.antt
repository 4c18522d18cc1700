use Rattle.std.proofs.Common.{[], ◌∷◌, true, map}
use Rattle.flow_syntax.specs.Binders.{binder}
use Rattle.check_rules.specs.inner.Tables.{known_by}
use Rattle.check_rules.proofs.ExprBinders.{pushed, pushed_behind}
use Rattle.check_rules.proofs.PatternLayers.{known_apply, known_held, known_in, known_list}
use Rattle.check_rules.proofs.bindings.+variables.Goals as goal

pub push_variables-returns-in-Apply : goal.push_variables-returns-in-Apply
push_variables-returns-in-Apply t c =
    pushed _ (map known_by c.args.out.now.items) _ _ (known_in c.args.pattern.now) c.push_variables_of_each.ensures (known_apply c.args.pattern.now c.in-Apply.field-0 c.in-Apply.parts c.as_slice.result.now c.in-Apply.is c.as_slice.ensures)

pub push_variables-returns-in-Tuple : goal.push_variables-returns-in-Tuple
push_variables-returns-in-Tuple t c =
    pushed _ (map known_by c.args.out.now.items) _ _ (known_in c.args.pattern.now) c.push_variables_of_each-in-Tuple.ensures (known_list c.args.pattern.now c.in-Tuple.parts c.as_slice-in-Tuple.result.now c.in-Tuple.is c.as_slice-in-Tuple.ensures)

pub push_variables-returns-in-Held : goal.push_variables-returns-in-Held
push_variables-returns-in-Held t c =
    pushed_behind _ (map known_by c.args.out.now.items) ((binder c.in-Held.name c.args.pattern.now.place, true) ∷ []) (known_in c.get.result.now) _ _ (known_in c.args.pattern.now) c.in_ok-push_binding-in-Held.ensures c.push_variables.ensures
    (known_held c.args.pattern.now c.in-Held.name c.in-Held.inner c.get.result.now c.in-Held.is c.get.ensures)
