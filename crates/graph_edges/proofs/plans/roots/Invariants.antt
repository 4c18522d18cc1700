use Rattle.std.proofs.Common.{◌≡◌, map, take}
use Rattle.flow_syntax.specs.declared.rule.FlowRule.{FlowRule}
use Rattle.graph_edges.proofs.plans.roots.Given as goal

abbrev pub invariant-loop-rule : goal.invariant-loop-rule
invariant-loop-rule l = l.roots ≡ map (λ (rule : FlowRule). rule.root) (take l.rule-index l.control)
