use Rattle.std.proofs.Common.{◌≡◌, ℕ, List, take}
use Rattle.std.specs.List.{list_any}
use Rattle.flow_syntax.specs.Matching.{pattern_layer}
use Rattle.flow_syntax.specs.RuleFaults.{binds_itself}
use Rattle.check_rules.specs.inner.Tables.{has_name}
use Rattle.check_rules.proofs.head.direct_variables.Given as goal

abbrev pub invariant-loop-argument : goal.invariant-loop-argument
invariant-loop-argument l = (x : List ℕ) → has_name l.names x ≡ list_any (λ p. binds_itself x (pattern_layer p)) (take l.argument-index l.arguments)
