use Rattle.std.proofs.Common.{◌≡◌, drop}
use Rattle.std.specs.List.{list_any}
use Rattle.flow_syntax.specs.RuleFaults.{looks_deep}
use Rattle.check_rules.proofs.patterns.+depth.Given as goal

abbrev pub invariant-any_looks_deep-loop-pattern : goal.invariant-any_looks_deep-loop-pattern
invariant-any_looks_deep-loop-pattern l = list_any (λ p. looks_deep p l.level) (drop l.pattern-index l.patterns) ≡ list_any (λ p. looks_deep p l.level) l.patterns
