use Rattle.check_base.specs.Earliest.{Gathers, FirstHave}
use Rattle.check_rules.specs.Faults.{IsMisappliedWithin}
use Rattle.check_rules.proofs.patterns.+applications.Given as goal

abbrev pub invariant-note_applications_of_each-loop-pattern : goal.invariant-note_applications_of_each-loop-pattern
invariant-note_applications_of_each-loop-pattern l = Gathers l.fn.earliest l.earliest (FirstHave (λ k. IsMisappliedWithin l.names) l.pattern-index l.patterns)
