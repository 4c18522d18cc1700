use Rattle.std.proofs.Common.{◌++◌, ap, sym, ◌∙◌, map}
use Rattle.std.proofs.lemmas.Result.{IfOk-equal}
use Rattle.check_exprs.specs.inner.Variables.{pattern_variable}
use Rattle.check_exprs.proofs.Patterns.{variables_in, variables_of_parts}
use Rattle.check_exprs.proofs.rules.+variables.Goals as goal

pub push_variables-returns-in-Apply : goal.push_variables-returns-in-Apply
push_variables-returns-in-Apply t c =
    IfOk-equal c.push_variables_of_each.result (map pattern_variable c.push_variables_of_each.new.out.items) _ _ c.push_variables_of_each.ensures
    (ap (λ ps. map pattern_variable c.args.out.now.items ++ variables_in ps) c.as_slice.ensures ∙ ap (λ vs. map pattern_variable c.args.out.now.items ++ vs) (sym (variables_of_parts c.args.pattern.now c.in-Apply.parts c.in-Apply.is)))
