use Rattle.flow_term.proofs.Outcomes.{on_ok}
use Rattle.check_rules.proofs.WholeVariables.{gathers_variables}
use Rattle.check_rules.proofs.variables.check_variables.Goals as goal

pub returns : goal.returns
returns c = on_ok c.check_all_parts.result c.check_all_parts.ensures (λ parts.
    gathers_variables c.args.spec.now c.as_slice.result.now c.as_slice-2.result.now c.as_slice-3.result.now c.as_slice-4.result.now c.as_slice.ensures c.as_slice-2.ensures c.as_slice-3.ensures c.as_slice-4.ensures
    c.in_ok-note_all_rebound.ensures c.in_ok-note_all_rebound-2.ensures c.in_ok-note_all_rebound-3.ensures parts)
