use Rattle.flow_sorts.proofs.Wholes.{all_gathered}
use Rattle.flow_sorts.proofs.check.look_by_names.Goals as goal

pub returns-clause-gathers : goal.returns-clause-gathers
returns-clause-gathers c =
    all_gathered c.args.spec.now c.args.earliest.now c.check_declarations.new.earliest c.check_rules.new.earliest c.check_variables.new.earliest c.check_expressions.new.earliest
    c.in_ok-check_declarations.ensures c.in_ok-check_rules.ensures c.in_ok-check_variables.ensures c.in_ok-types.ensures.gathers
