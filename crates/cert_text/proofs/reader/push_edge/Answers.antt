use Rattle.std.proofs.Common.{suc, sym, subst, List, Err}
use Rattle.flow_term.specs.declared.graph.Edge.{Edge}
use Rattle.flow_term.specs.Orders.{edge_cmp}
use Rattle.cert_text.specs.declared.place.CertFaultKind.TheVariants as fault
use Rattle.cert_text.specs.declared.place.Place.TheVariants.{Edges}
use Rattle.cert_text.specs.declared.refusal.LineFault.TheVariants as line
use Rattle.cert_text.specs.Lines.{IsAbove}
use Rattle.cert_text.specs.inner.Bodies.{edge_body}
use Rattle.cert_text.proofs.Moving.{moves_at, edge_not_above, edge_taken}
use Rattle.cert_text.proofs.reader.push_edge.Goals as goal

pub returns-then-not-edge_is_above : goal.returns-then-not-edge_is_above
returns-then-not-edge_is_above c =
    moves_at {X = Unit {0}} c.args.progress.now c.args.progress.now (Edges (suc c.args.others)) (edge_body c.args.edge) (Err (line.Fault fault.Order)) c.requires.place
    (edge_not_above c.args.progress.now.certificate c.args.others c.args.edge c.requires.entry
    (λ (h : IsAbove edge_cmp c.args.progress.now.certificate.edges c.args.edge). let yes = c.edge_is_above.ensures.1 (subst (λ (xs : List Edge). IsAbove edge_cmp xs c.args.edge) (sym c.as_slice.ensures) h) in cc (yes, c.if-not-edge_is_above.true)))
