use Rattle.std.proofs.Common.{List, ℕ}
use Rattle.std.proofs.lemmas.Result.{err_from_is_err_and}
use Rattle.flow_term.specs.declared.graph.Node.{Node}
use Rattle.flow_term.specs.Nodes.{node_text}
use Rattle.flow_term.specs.Paths.{AreSteps}
use Rattle.flow_syntax.specs.Accepted.{IsIdentifier}
use Rattle.value_text.specs.Texts.{HasText, value_text}
use Rattle.cert_text.specs.Texts.{IsValueEntry}
use Rattle.cert_text.specs.inner.Bodies.{value_body}
use Rattle.cert_text.proofs.Parts.{no_value_equals, no_value_name, no_value_node, no_value_sign, no_value_text, passes_on}
use Rattle.cert_text.proofs.entry.valued_of.Goals as goal

pub returns-in_default-split_at : goal.returns-in_default-split_at
returns-in_default-split_at c = no_value_sign c.args.body.now c.in-Some.node.now c.in-Some.rest.now c.in-Some.ensures.found c.in_default-split_at.ensures.none

pub returns-in_default-behind : goal.returns-in_default-behind
returns-in_default-behind c =
    no_value_equals c.args.body.now c.in-Some.node.now c.in-Some.rest.now c.in-Some-split_at.property.now c.in-Some-split_at.rest.now c.in-Some.ensures.found c.in-Some-split_at.ensures.found c.in_default-behind.ensures.none

pub returns-in_err-node : goal.returns-in_err-node
returns-in_err-node c =
    let p = err_from_is_err_and c.from_residual.result c.from_residual.ensures.1 in
    passes_on (λ (n : Node). AreSteps n.path) node_text IsValueEntry value_body c.in-Some.node.now c.args.body.now c.in_err-node.field-0.0 p.0 c.from_residual.result c.in_err-node.ensures p.1 p.2
    (no_value_node c.args.body.now c.in-Some.node.now c.in-Some.rest.now c.in-Some.ensures.found)

pub returns-in_err-property : goal.returns-in_err-property
returns-in_err-property c =
    let p = err_from_is_err_and c.from_residual-in_err-property.result c.from_residual-in_err-property.ensures.1 in
    passes_on IsIdentifier (λ (text : List ℕ). text) IsValueEntry value_body c.in-Some-split_at.property.now c.args.body.now c.in_err-property.field-0.0 p.0 c.from_residual-in_err-property.result c.in_err-property.ensures p.1 p.2
    (no_value_name c.args.body.now c.in-Some.node.now c.in-Some.rest.now c.in-Some-split_at.property.now c.in-Some-split_at.rest.now c.in-Some.ensures.found c.in-Some-split_at.ensures.found)

pub returns-in_err-value : goal.returns-in_err-value
returns-in_err-value c =
    let p = err_from_is_err_and c.from_residual-in_err-value.result c.from_residual-in_err-value.ensures.1 in
    passes_on HasText value_text IsValueEntry value_body c.in-Some-behind.value.now c.args.body.now c.in_err-value.field-0.0 p.0 c.from_residual-in_err-value.result c.in_err-value.ensures p.1 p.2
    (no_value_text c.args.body.now c.in-Some.node.now c.in-Some.rest.now c.in-Some-split_at.property.now c.in-Some-split_at.rest.now c.in-Some-behind.value.now c.in-Some.ensures.found c.in-Some-split_at.ensures.found c.in-Some-behind.ensures.found)
