use Rattle.std.proofs.Common.{arith}
use Rattle.check_base.proofs.GathersLaws.{Gathers-all, Gathers-read, Gathers-start}
use Rattle.check_rules.proofs.Misapplied.{of_apply, of_held, of_list}
use Rattle.check_rules.proofs.patterns.+applications.Goals as goal

pub note_applications-returns-in-Apply : goal.note_applications-returns-in-Apply
note_applications-returns-in-Apply t c =
    of_apply c.args.names.now c.args.pattern.now c.in-Apply.name c.in-Apply.parts c.as_slice.result.now c.len.result c.in-Apply.is c.len.ensures c.as_slice.ensures c.note_application.ensures c.note_applications_of_each.ensures

pub note_applications-returns-in-Held : goal.note_applications-returns-in-Held
note_applications-returns-in-Held t c = of_held c.args.names.now c.args.pattern.now c.in-Held.field-0 c.in-Held.inner c.get.result.now c.in-Held.is c.get.ensures c.note_applications.ensures

pub note_applications-returns-in-Tuple : goal.note_applications-returns-in-Tuple
note_applications-returns-in-Tuple t c = of_list c.args.names.now c.args.pattern.now c.in-Tuple.parts c.as_slice-in-Tuple.result.now c.in-Tuple.is c.as_slice-in-Tuple.ensures c.note_applications_of_each-in-Tuple.ensures

pub note_applications_of_each-loop-pattern-init : goal.note_applications_of_each-loop-pattern-init
note_applications_of_each-loop-pattern-init t c = Gathers-start c.args.patterns.now c.args.earliest.now

pub note_applications_of_each-loop-pattern-preserved : goal.note_applications_of_each-loop-pattern-preserved
note_applications_of_each-loop-pattern-preserved t c = Gathers-read c.args.patterns.now c.loop-pattern.pattern-index c.pattern-item.result c.loop-pattern-test.true c.pattern-item.is c.loop-pattern.invariant c.note_applications.ensures

pub note_applications_of_each-returns : goal.note_applications_of_each-returns
note_applications_of_each-returns t c = Gathers-all c.args.patterns.now _ (omega arith) c.loop-pattern.invariant
