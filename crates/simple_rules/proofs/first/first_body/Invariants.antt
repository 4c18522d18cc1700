use Rattle.simple_rules.specs.inner.Least.{IsAtOtherBody, IsLeast}
use Rattle.simple_rules.proofs.LeastLemmas.{FirstHave}
use Rattle.simple_rules.proofs.first.first_body.Given as goal

abbrev pub invariant-loop-rule : goal.invariant-loop-rule
invariant-loop-rule l = IsLeast (FirstHave IsAtOtherBody l.rule-index l.rules) l.first
