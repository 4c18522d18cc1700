use Rattle.std.specs.Prelude.{All}
use Rattle.std.proofs.Common.{take}
use Rattle.flow_term.specs.Paths.{AreSteps}
use Rattle.cert_text.proofs.holding.values_hold.Given as goal

abbrev pub invariant-loop-value : goal.invariant-loop-value
invariant-loop-value l = All (λ v. AreSteps v.unknown.node.path) (take l.value-index l.values)
