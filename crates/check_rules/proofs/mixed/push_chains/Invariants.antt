use Rattle.std.proofs.Common.{◌≡◌, ◌++◌, map, take}
use Rattle.std.specs.List.{flat_map}
use Rattle.check_rules.specs.inner.Tables.{shown}
use Rattle.check_rules.proofs.mixed.push_chains.Given as goal

abbrev pub invariant-loop-chain : goal.invariant-loop-chain
invariant-loop-chain l = map shown l.out.items ≡ map shown l.fn.out.items ++ flat_map (λ chain. chain.items) (take l.chain-index l.chains)
