use Rattle.std.proofs.Common.{rules, refl}
use Rattle.std.specs.Prelude.{Err}
use Rattle.flow_script.specs.declared.refusal.ScriptRefusal.TheVariants.{Fault}
use Rattle.flow_script.specs.declared.refusal.ScriptFaultKind.TheVariants.{NotUtf8}
use Rattle.flow_script.specs.Scripts.{ScriptFaulty, no_text}
use Rattle.flow_script.proofs.Reading.{answered, only_fault, only_script}
use Rattle.flow_script.proofs.script.read_script.Goals as goal

pub returns-in-Ok-clause-only : goal.returns-in-Ok-clause-only
returns-in-Ok-clause-only c =
    only_script c.args.bytes.now c.read_lines.result (answered c.args.bytes.now c.in-Ok.text.now c.read_lines.result c.in-Ok.ensures.cases.0 c.in-Ok.ensures.cases.1 c.read_lines.ensures.found c.read_lines.ensures.fault)

pub returns-in-Ok-clause-first : goal.returns-in-Ok-clause-first
returns-in-Ok-clause-first c =
    only_fault c.args.bytes.now c.read_lines.result (answered c.args.bytes.now c.in-Ok.text.now c.read_lines.result c.in-Ok.ensures.cases.0 c.in-Ok.ensures.cases.1 c.read_lines.ensures.found c.read_lines.ensures.fault)

faulty : (c : goal.After-line_behind) → ScriptFaulty c.args.bytes.now c.line_behind.result NotUtf8
faulty c = no_text c.in-Err.error.valid_up_to c.in-Err.ensures.cases.1 (search rules) refl

pub returns-in-Err-clause-fault : goal.returns-in-Err-clause-fault
returns-in-Err-clause-fault c = faulty c

pub returns-in-Err-clause-first : goal.returns-in-Err-clause-first
returns-in-Err-clause-first c = only_fault c.args.bytes.now (Err (Fault c.line_behind.result NotUtf8)) (faulty c)
