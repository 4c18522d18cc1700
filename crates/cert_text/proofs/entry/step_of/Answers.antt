use Rattle.std.proofs.Common.{List, ℕ}
use Rattle.std.proofs.lemmas.Result.{err_from_is_err_and}
use Rattle.flow_term.specs.declared.graph.Node.{Node}
use Rattle.flow_term.specs.Nodes.{node_text}
use Rattle.flow_term.specs.Paths.{AreSteps}
use Rattle.flow_syntax.specs.Accepted.{IsIdentifier}
use Rattle.cert_text.specs.Texts.{IsFrom, IsStepEntry, origin_text}
use Rattle.cert_text.specs.inner.Bodies.{step_body}
use Rattle.cert_text.proofs.Parts.{no_step_name, no_step_node, no_step_origin, no_step_source, passes_on}
use Rattle.cert_text.proofs.entry.step_of.Goals as goal

pub returns-in_default-split_at : goal.returns-in_default-split_at
returns-in_default-split_at c = no_step_source c.args.body.now c.in-Some.property.now c.in-Some.rest.now c.in-Some.ensures.found c.in_default-split_at.ensures.none

pub returns-in_err-property : goal.returns-in_err-property
returns-in_err-property c =
    let p = err_from_is_err_and c.from_residual.result c.from_residual.ensures.1 in
    passes_on IsIdentifier (λ (text : List ℕ). text) IsStepEntry step_body c.in-Some.property.now c.args.body.now c.in_err-property.field-0.0 p.0 c.from_residual.result c.in_err-property.ensures p.1 p.2
    (no_step_name c.args.body.now c.in-Some.property.now c.in-Some.rest.now c.in-Some.ensures.found)

pub returns-in_err-node : goal.returns-in_err-node
returns-in_err-node c =
    let p = err_from_is_err_and c.from_residual-in_err-node.result c.from_residual-in_err-node.ensures.1 in
    passes_on (λ (n : Node). AreSteps n.path) node_text IsStepEntry step_body c.in-Some-split_at.node.now c.args.body.now c.in_err-node.field-0.0 p.0 c.from_residual-in_err-node.result c.in_err-node.ensures p.1 p.2
    (no_step_node c.args.body.now c.in-Some.property.now c.in-Some.rest.now c.in-Some-split_at.node.now c.in-Some-split_at.source.now c.in-Some.ensures.found c.in-Some-split_at.ensures.found)

pub returns-in_err-origin : goal.returns-in_err-origin
returns-in_err-origin c =
    let p = err_from_is_err_and c.from_residual-in_err-origin.result c.from_residual-in_err-origin.ensures.1 in
    passes_on IsFrom origin_text IsStepEntry step_body c.in-Some-split_at.source.now c.args.body.now c.in_err-origin.field-0.0 p.0 c.from_residual-in_err-origin.result c.in_err-origin.ensures p.1 p.2
    (no_step_origin c.args.body.now c.in-Some.property.now c.in-Some.rest.now c.in-Some-split_at.node.now c.in-Some-split_at.source.now c.in-Some.ensures.found c.in-Some-split_at.ensures.found)
