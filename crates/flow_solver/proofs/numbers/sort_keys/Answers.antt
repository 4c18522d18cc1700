use Rattle.std.proofs.Common.{rules}
use Rattle.std.proofs.lemmas.Fn.{always_returns_same}
use Rattle.std.specs.Ordering.{is_lt}
use Rattle.flow_solver.proofs.numbers.sort_keys.Goals as goal

pub returns-clause-sorted : goal.returns-clause-sorted
returns-clause-sorted g c = c.sort_unstable_by.ensures.sorted (λ a b. is_lt (g.S.System.order c.args.system.now a b)) (g.met.S.System.ordered c.args.system.now).weak (always_returns_same _ _ _ (λ a r h called. search rules))
