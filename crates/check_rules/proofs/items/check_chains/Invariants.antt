use Rattle.check_base.specs.Earliest.{Gathers, FirstHave}
use Rattle.check_rules.specs.Faults.{IsFaultyChain}
use Rattle.check_rules.proofs.items.check_chains.Given as goal

abbrev pub invariant-loop-chain : goal.invariant-loop-chain
invariant-loop-chain l = Gathers l.fn.earliest l.earliest (FirstHave (λ k. IsFaultyChain l.rule) l.chain-index l.chains)
