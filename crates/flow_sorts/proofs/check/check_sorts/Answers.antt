use Rattle.std.proofs.Common.{map, sym, ◌∙◌}
use Rattle.expr_typing.proofs.Laws.{faultless_have_types}
use Rattle.flow_syntax.specs.Types.{typing_of}
use Rattle.flow_sorts.proofs.Wholes.{found_first, none_found, first_alone}
use Rattle.flow_sorts.proofs.check.check_sorts.Goals as goal

pub returns-in-Some-clause-only : goal.returns-in-Some-clause-only
returns-in-Some-clause-only c = λ faultless. faultless c.in-Some.place c.in-Some.kind (found_first c.args.spec c.new-earliest.result c.look_for_faults.new.earliest c.in-Some.place c.in-Some.kind c.in_ok-told.ensures.gathers c.new-earliest.ensures (sym c.found.ensures ∙ c.in-Some.is)).stands

pub returns-in-Some-clause-fault : goal.returns-in-Some-clause-fault
returns-in-Some-clause-fault c = found_first c.args.spec c.new-earliest.result c.look_for_faults.new.earliest c.in-Some.place c.in-Some.kind c.in_ok-told.ensures.gathers c.new-earliest.ensures (sym c.found.ensures ∙ c.in-Some.is)

pub returns-in-Some-clause-first : goal.returns-in-Some-clause-first
returns-in-Some-clause-first c = λ place kind first. first_alone c.args.spec c.in-Some.place place c.in-Some.kind kind
    (found_first c.args.spec c.new-earliest.result c.look_for_faults.new.earliest c.in-Some.place c.in-Some.kind c.in_ok-told.ensures.gathers c.new-earliest.ensures (sym c.found.ensures ∙ c.in-Some.is)) first

pub invariant_of-result-clause-faultless : goal.invariant_of-result-clause-faultless
invariant_of-result-clause-faultless c = none_found c.args.spec c.new-earliest.result c.look_for_faults.new.earliest c.in_ok-told.ensures.gathers (sym c.found.ensures ∙ c.in_default.is)

pub invariant_of-result-clause-typed : goal.invariant_of-result-clause-typed
invariant_of-result-clause-typed c =
    ∣ faultless_have_types c.args.spec (map typing_of c.in_ok-told.told.types)
    (none_found c.args.spec c.new-earliest.result c.look_for_faults.new.earliest c.in_ok-told.ensures.gathers (sym c.found.ensures ∙ c.in_default.is)) c.in_ok-told.ensures.types ∣₁
