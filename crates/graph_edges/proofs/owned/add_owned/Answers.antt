use Rattle.std.proofs.Common.{ap, ◌∙◌}
use Rattle.flow_term.proofs.Outcomes.{on_ok}
use Rattle.flow_links.proofs.SetLemmas.{Gains-same}
use Rattle.graph_shape.specs.Shapes.{bits_of}
use Rattle.graph_edges.proofs.Listing.{list_edges, rule_edges}
use Rattle.graph_edges.proofs.owned.add_owned.Goals as goal

pub returns-then-shape : goal.returns-then-shape
returns-then-shape c = on_ok c.add_between.result c.add_between.ensures (λ g. Gains-same g (list_edges c.args.plans.now c.args.shape.now c.args.path.now c.if-shape.true))

pub returns : goal.returns
returns c = on_ok c.add_by_steps.result c.add_by_steps.ensures (λ g. Gains-same g
    (rule_edges c.args.plans.now c.args.shape.now c.args.path.now c.if-shape.false c.steps-steps.result.now c.as_slice-2.result.now c.steps-steps.ensures
    (c.as_slice-2.ensures ∙ c.in_ok-bits.ensures ∙ ap bits_of c.as_slice.ensures)))
