use Rattle.simple_rules.specs.inner.Least.{IsAtFunction, IsLeast}
use Rattle.simple_rules.proofs.LeastLemmas.{FirstHave}
use Rattle.simple_rules.proofs.first.first_function.Given as goal

abbrev pub invariant-loop-function : goal.invariant-loop-function
invariant-loop-function l = IsLeast (FirstHave IsAtFunction l.function-index l.functions) l.first
