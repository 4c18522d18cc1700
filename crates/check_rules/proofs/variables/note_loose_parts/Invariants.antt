use Rattle.check_base.specs.Earliest.{Gathers, FirstHave}
use Rattle.check_rules.specs.Faults.{IsLooseIn}
use Rattle.check_rules.proofs.variables.note_loose_parts.Given as goal

abbrev pub invariant-loop-part : goal.invariant-loop-part
invariant-loop-part l = Gathers l.fn.earliest l.earliest (FirstHave (λ k. IsLooseIn l.variables) l.part-index l.parts)
