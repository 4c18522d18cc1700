use Rattle.aterm_text.proofs.Reading.{found_by, only_by, fault_by, first_by, utf8_fault, utf8_first}
use Rattle.aterm_text.proofs.reader.read.Goals as goal

pub returns-in-Ok-clause-found : goal.returns-in-Ok-clause-found
returns-in-Ok-clause-found c = found_by c.read_all.result c.args.bytes.now c.in-Ok.ensures.cases.1 c.read_all.ensures

pub returns-in-Ok-clause-only : goal.returns-in-Ok-clause-only
returns-in-Ok-clause-only c = only_by c.read_all.result c.args.bytes.now c.read_all.ensures

pub returns-in-Ok-clause-fault : goal.returns-in-Ok-clause-fault
returns-in-Ok-clause-fault c = fault_by c.read_all.result c.args.bytes.now c.in-Ok.ensures.cases.1 c.read_all.ensures

pub returns-in-Ok-clause-first : goal.returns-in-Ok-clause-first
returns-in-Ok-clause-first c = first_by c.read_all.result c.args.bytes.now c.in-Ok.ensures.cases.1 c.read_all.ensures

pub returns-in-Err-clause-fault : goal.returns-in-Err-clause-fault
returns-in-Err-clause-fault c = utf8_fault c.fault.result c.args.bytes.now c.valid_up_to.result _ c.fault.ensures c.valid_up_to.ensures c.in-Err.ensures.cases.0 c.in-Err.ensures.cases.1

pub returns-in-Err-clause-first : goal.returns-in-Err-clause-first
returns-in-Err-clause-first c = utf8_first c.fault.result c.args.bytes.now c.valid_up_to.result _ c.fault.ensures c.valid_up_to.ensures c.in-Err.ensures.cases.0 c.in-Err.ensures.cases.1
