use Rattle.std.proofs.Common.{◌≡◌, ℕ, List, take}
use Rattle.std.specs.List.{list_any}
use Rattle.flow_syntax.specs.Control.{is_variable_in}
use Rattle.flow_syntax.specs.Matching.{pattern_layer}
use Rattle.check_rules.specs.inner.Tables.{has_name}
use Rattle.check_rules.proofs.head.argument_names.Given as goal

abbrev pub invariant-loop-argument : goal.invariant-loop-argument
invariant-loop-argument l = (x : List ℕ) → has_name l.names x ≡ list_any (λ p. is_variable_in x (pattern_layer p)) (take l.argument-index l.arguments)
