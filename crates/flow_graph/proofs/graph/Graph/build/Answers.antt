use Rattle.std.proofs.Common.{ℕ, List, [], sym, subst, ◌∙◌}
use Rattle.flow_syntax.specs.declared.rule.FlowRule.{FlowRule}
use Rattle.flow_syntax.specs.declared.spec.Spec.{Spec}
use Rattle.flow_syntax.proofs.BoundItems.{bound_items}
use Rattle.graph_laws.proofs.Accepted.{items_placed, lists_no_rule}
use Rattle.graph_shape.specs.Shapes.{CanBuild, HasMatches, IsShapeOf}
use Rattle.graph_edges.specs.Owned.{AreBothPlans}
use Rattle.flow_graph.proofs.graph.Graph.build.Goals as goal

pub build-requires-clause-can : goal.build-requires-clause-can
build-requires-clause-can g c =
    subst (λ (s : Spec). CanBuild s c.in_ok-plans.plans.forth c.args.tree.now) (sym c.requires.source)
    (let plans : AreBothPlans c.args.spec.now.spec.control c.in_ok-plans.plans = subst (λ (rules : List FlowRule). AreBothPlans rules c.in_ok-plans.plans) c.as_slice.ensures c.in_ok-plans.ensures in
    record {
      small = c.requires.small;
      few = c.requires.few;
      usable = record { made = plans.forth; placed = items_placed c.args.spec.now.spec c.args.spec.now.faultless; lists = lists_no_rule c.args.spec.now.spec c.args.spec.now.applied_heads };
    })

pub returns-clause-graph : goal.returns-clause-graph
returns-clause-graph g c = record {
  rules = record {
    placed = items_placed c.args.spec.now.spec c.args.spec.now.faultless;
    lists = lists_no_rule c.args.spec.now.spec c.args.spec.now.applied_heads;
    long = c.args.spec.now.long_chains;
    bound = bound_items c.args.spec.now.spec c.args.spec.now.faultless c.args.spec.now.applied_heads;
  };
  small = c.requires.small;
  plans = subst (λ (rules : List FlowRule). AreBothPlans rules c.in_ok-plans.plans) c.as_slice.ensures c.in_ok-plans.ensures;
  shape = subst (λ (s : Spec). IsShapeOf s c.args.tree.now c.in_ok-shape.shape) c.requires.source c.in_ok-shape.ensures.shape;
  matches = subst (λ (s : Spec). HasMatches s c.args.tree.now [] c.in_ok-shape.shape) c.requires.source
      (subst (λ (p : List ℕ). HasMatches (g.R.RuleSource.spec c.args.rules.now) c.args.tree.now p c.in_ok-shape.shape) (c.from_vec-root.ensures ∙ c.new-2.ensures.items) c.in_ok-shape.ensures.matches);
}
