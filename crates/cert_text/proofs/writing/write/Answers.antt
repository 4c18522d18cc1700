use Rattle.std.proofs.Common.{List, length, subst, ◌∙◌}
use Rattle.std.specs.Prelude.{All}
use Rattle.flow_term.specs.declared.graph.Edge.{Edge}
use Rattle.flow_term.specs.declared.value.Valued.{Valued}
use Rattle.flow_term.specs.Paths.{AreSteps}
use Rattle.tree_constraints.specs.declared.constraint.Key.{Key}
use Rattle.cert_text.specs.Texts.{IsCount, IsEdgeEntry}
use Rattle.cert_text.specs.inner.Bodies.{HasStepPaths}
use Rattle.cert_text.proofs.Written.{is_certificate}
use Rattle.cert_text.proofs.writing.write.Goals as goal

pub returns : goal.returns
returns c =
    is_certificate c.args.certificate.now c.from_vec.result c.requires
    (subst (λ (xs : List Edge). All IsEdgeEntry xs) c.as_slice.ensures c.edges_hold.ensures.paths)
    (subst (λ (xs : List Edge). IsCount (length xs)) c.as_slice.ensures c.edges_hold.ensures.count)
    (subst (λ (xs : List Key). All HasStepPaths xs) c.as_slice-2.ensures c.steps_hold.ensures.paths)
    (subst (λ (xs : List Key). IsCount (length xs)) c.as_slice-2.ensures c.steps_hold.ensures.count)
    (subst (λ (xs : List Valued). All (λ v. AreSteps v.unknown.node.path) xs) c.as_slice-3.ensures c.values_hold.ensures.paths)
    (subst (λ (xs : List Valued). IsCount (length xs)) c.as_slice-3.ensures c.values_hold.ensures.count)
    (c.from_vec.ensures ∙ c.in_ok-written.ensures)
