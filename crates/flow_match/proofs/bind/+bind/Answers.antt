use Rattle.std.proofs.Common.{sym, arith}
use Rattle.flow_match.proofs.Onto.{onto_short}
use Rattle.flow_match.proofs.Sizes.{count_le}
use Rattle.flow_match.proofs.bind.+bind.Goals as goal

pub bind_each-returns-then-patterns-terms-clause-bound : goal.bind_each-returns-then-patterns-terms-clause-bound
bind_each-returns-then-patterns-terms-clause-bound t c = sym (onto_short c.args.patterns.now c.args.terms.now c.args.path.now.items c.args.out.now c.if-patterns-terms.true)

pub bind_each-overflow_cast-i : goal.bind_each-overflow_cast-i
bind_each-overflow_cast-i t c = omega (arith, count_le c.args.terms.now)
