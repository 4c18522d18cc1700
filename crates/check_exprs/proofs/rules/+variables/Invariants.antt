use Rattle.std.proofs.Common.{◌≡◌, ◌++◌, map, take}
use Rattle.std.specs.List.{flat_map}
use Rattle.flow_syntax.specs.Binders.{bound_in, variable_of as bound_variable}
use Rattle.check_exprs.specs.inner.Variables.{pattern_variable}
use Rattle.check_exprs.proofs.rules.+variables.Given as goal

abbrev pub invariant-push_variables_of_each-loop-pattern : goal.invariant-push_variables_of_each-loop-pattern
invariant-push_variables_of_each-loop-pattern l = map pattern_variable l.out.items ≡ map pattern_variable l.fn.out.items ++ map bound_variable (flat_map bound_in (take l.pattern-index l.patterns))
