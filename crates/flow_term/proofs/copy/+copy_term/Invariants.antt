use Rattle.std.proofs.Common.{◌≡◌, take}
use Rattle.flow_term.proofs.copy.+copy_term.Given as goal

abbrev pub invariant-copy_terms-loop-term : goal.invariant-copy_terms-loop-term
invariant-copy_terms-loop-term l = l.copy ≡ take l.term-index l.terms
