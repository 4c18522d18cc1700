use Rattle.std.proofs.lemmas.Result.{err_from_is_err_and}
use Rattle.flow_term.specs.declared.graph.Node.{Node}
use Rattle.flow_term.specs.Nodes.{node_text}
use Rattle.flow_term.specs.Paths.{AreSteps}
use Rattle.cert_text.specs.Texts.{IsEdgeEntry}
use Rattle.cert_text.specs.inner.Bodies.{edge_body}
use Rattle.cert_text.proofs.Parts.{no_edge_arrow, no_edge_from, no_edge_to, passes_on}
use Rattle.cert_text.proofs.entry.edge_of.Goals as goal

pub returns-in_default-behind : goal.returns-in_default-behind
returns-in_default-behind c = no_edge_arrow c.args.body.now c.in-Some.from.now c.in-Some.rest.now c.in-Some.ensures.found c.in_default-behind.ensures.none

pub returns-in_err-from : goal.returns-in_err-from
returns-in_err-from c =
    let p = err_from_is_err_and c.from_residual.result c.from_residual.ensures.1 in
    passes_on (λ (n : Node). AreSteps n.path) node_text IsEdgeEntry edge_body c.in-Some.from.now c.args.body.now c.in_err-from.field-0.0 p.0 c.from_residual.result c.in_err-from.ensures p.1 p.2
    (no_edge_from c.args.body.now c.in-Some.from.now c.in-Some.rest.now c.in-Some.ensures.found)

pub returns-in_err-to : goal.returns-in_err-to
returns-in_err-to c =
    let p = err_from_is_err_and c.from_residual-in_err-to.result c.from_residual-in_err-to.ensures.1 in
    passes_on (λ (n : Node). AreSteps n.path) node_text IsEdgeEntry edge_body c.in-Some-behind.to.now c.args.body.now c.in_err-to.field-0.0 p.0 c.from_residual-in_err-to.result c.in_err-to.ensures p.1 p.2
    (no_edge_to c.args.body.now c.in-Some.from.now c.in-Some.rest.now c.in-Some-behind.to.now c.in-Some.ensures.found c.in-Some-behind.ensures.found)
