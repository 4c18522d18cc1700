use Rattle.std.proofs.Common.{◌≡◌, ◌++◌, map, take}
use Rattle.std.specs.List.{flat_map}
use Rattle.flow_syntax.specs.Binders.{bound_in}
use Rattle.check_rules.specs.inner.Tables.{known_bound, known_by}
use Rattle.check_rules.proofs.bindings.+variables.Given as goal

abbrev pub invariant-push_variables_of_each-loop-pattern : goal.invariant-push_variables_of_each-loop-pattern
invariant-push_variables_of_each-loop-pattern l = map known_by l.out.items ≡ map known_by l.fn.out.items ++ map known_bound (flat_map bound_in (take l.pattern-index l.patterns))
