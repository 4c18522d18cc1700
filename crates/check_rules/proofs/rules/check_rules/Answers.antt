use Rattle.check_rules.proofs.WholeRules.{gathers_rules}
use Rattle.check_rules.proofs.rules.check_rules.Goals as goal

pub returns : goal.returns
returns c = gathers_rules c.args.spec.now c.as_slice.result.now c.as_slice-2.result.now c.as_slice-3.result.now c.as_slice.ensures c.as_slice-2.ensures c.as_slice-3.ensures
    c.in_ok-check_control.ensures c.check_triggers.ensures c.check_messages.ensures
