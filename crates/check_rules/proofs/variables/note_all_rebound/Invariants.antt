use Rattle.check_base.specs.Earliest.{Gathers, FirstHave}
use Rattle.check_rules.specs.Faults.{RebindsIn}
use Rattle.check_rules.proofs.variables.note_all_rebound.Given as goal

abbrev pub invariant-loop-whole : goal.invariant-loop-whole
invariant-loop-whole g l = Gathers l.fn.earliest l.earliest (FirstHave (λ k whole. RebindsIn l.spec (g.B.Binds.binders whole)) l.whole-index l.wholes)
