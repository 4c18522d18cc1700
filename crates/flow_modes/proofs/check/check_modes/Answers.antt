use Rattle.std.proofs.Common.{sym, ◌∙◌}
use Rattle.flow_modes.proofs.Rules.{found, none_accepted, none_refused, some_accepted, some_refused}
use Rattle.flow_modes.proofs.check.check_modes.Goals as goal

pub returns-in-None-clause-accepted : goal.returns-in-None-clause-accepted
returns-in-None-clause-accepted c = none_accepted c.args.spec.now (sym (found c.args.spec.now _ _ c.first_fault.result c.as_slice.ensures c.as_slice-2.ensures c.first_fault.ensures) ∙ c.in-None.is)

pub returns-in-None-clause-refused : goal.returns-in-None-clause-refused
returns-in-None-clause-refused c = none_refused c.args.spec.now (sym (found c.args.spec.now _ _ c.first_fault.result c.as_slice.ensures c.as_slice-2.ensures c.first_fault.ensures) ∙ c.in-None.is)

pub returns-in-Some-clause-accepted : goal.returns-in-Some-clause-accepted
returns-in-Some-clause-accepted c = some_accepted c.args.spec.now c.in-Some.fault (sym (found c.args.spec.now _ _ c.first_fault.result c.as_slice.ensures c.as_slice-2.ensures c.first_fault.ensures) ∙ c.in-Some.is)

pub returns-in-Some-clause-refused : goal.returns-in-Some-clause-refused
returns-in-Some-clause-refused c = some_refused c.args.spec.now c.in-Some.fault (sym (found c.args.spec.now _ _ c.first_fault.result c.as_slice.ensures c.as_slice-2.ensures c.first_fault.ensures) ∙ c.in-Some.is)
