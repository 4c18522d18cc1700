use Rattle.std.proofs.Common.{rules, ◌+◌, arith}
use Rattle.std.proofs.lemmas.List.{length_push}
use Rattle.std.proofs.lemmas.Iterator.Consumers.{YieldsList-turn, YieldsList-end}
use Rattle.std.proofs.lemmas.Iterator.Splits.{YieldsList-from_lines}
use Rattle.std.specs.Str.Lines.{lines}
use Rattle.flow_script.specs.Forms.{form_of_line}
use Rattle.flow_script.proofs.Reading.{StandsAt, all_read, fault_told, first_fault, read_more}
use Rattle.flow_script.proofs.script.read_lines.Goals as goal

pub loop-line-preserved : goal.loop-line-preserved
loop-line-preserved c =
    let turn = YieldsList-turn (YieldsList-from_lines c.args.text.now cc) c.loop-line.yielded _ c.loop-line.yielded_by _ _ c.in-Some.line c.in-Some.is c.next.ensures.steps in
    let at : StandsAt (lines c.args.text.now) c.loop-line.number c.in-Some.line.now = rw c.loop-line.invariant.0 turn in
    (omega (arith, length_push c.loop-line.yielded c.in-Some.line, c.loop-line.invariant.0), read_more c.loop-line.number (lines c.args.text.now) c.loop-line.script.items c.add_line.new.script.items c.in-Some.line.now c.loop-line.invariant.1 at (rw (← c.as_bytes.ensures.value) c.in_ok-add_line.ensures.added))

pub returns-in_err-add_line-clause-fault : goal.returns-in_err-add_line-clause-fault
returns-in_err-add_line-clause-fault c =
    let turn = YieldsList-turn (YieldsList-from_lines c.args.text.now cc) c.loop-line.yielded _ c.loop-line.yielded_by _ _ c.in-Some.line c.in-Some.is c.next.ensures.steps in
    let at : StandsAt (lines c.args.text.now) c.loop-line.number c.in-Some.line.now = rw c.loop-line.invariant.0 turn in
    fault_told _ c.from_residual.result c.in_err-add_line.field-0.0 (c.loop-line.number + 1) (form_of_line c.in-Some.line.now) (search rules) (rw (← c.as_bytes.ensures.value) c.in_err-add_line.ensures.fault) (λ kind f. first_fault c.loop-line.number (lines c.args.text.now) c.loop-line.script.items c.in-Some.line.now kind c.loop-line.invariant.1 at f)

pub returns-clause-found : goal.returns-clause-found
returns-clause-found c =
    let end = YieldsList-end (YieldsList-from_lines c.args.text.now cc) c.loop-line.yielded _ c.loop-line.yielded_by _ _ c.in-None.is c.next.ensures.steps in
    rw c.from_vec.ensures (all_read c.loop-line.number (lines c.args.text.now) c.loop-line.script.items c.loop-line.invariant.1 (omega (arith, end.1, c.loop-line.invariant.0)))
