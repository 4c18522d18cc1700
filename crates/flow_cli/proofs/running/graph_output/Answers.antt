use Rattle.std.proofs.Common.{ℕ, List, Option, subst}
use Rattle.std.specs.Prelude.{IfSome}
use Rattle.std.specs.FinMap.{get}
use Rattle.flow_term.proofs.Outcomes.{both_some, if_some}
use Rattle.flow_io.specs.Contents.{Contents}
use Rattle.flow_cli.specs.inner.Read.{IsReadSpecification, IsReadTree}
use Rattle.flow_cli.proofs.GraphLemmas.{both_accepted, first_refused, second_refused}
use Rattle.flow_cli.proofs.running.graph_output.Goals as goal

pub returns-in-Refused-clause-told : goal.returns-in-Refused-clause-told
returns-in-Refused-clause-told g c = if_some (g.F.Folder.held c.args.folder.now) c.in_ok-spec.ensures.told (λ files read.
    first_refused (get files c.args.spec.now) (get files c.args.tree.now) c.in_ok-spec.field-0
    (subst (λ (name : List ℕ). IsReadSpecification (get files name) c.in_ok-spec.field-0) c.as_str.ensures read) c.in-Refused.bytes c.in-Refused.is c.refusal.result c.refusal.ensures)

pub returns-in-Refused-2-clause-told : goal.returns-in-Refused-2-clause-told
returns-in-Refused-2-clause-told g c = both_some (g.F.Folder.held c.args.folder.now) c.in_ok-spec.ensures.told
    (subst (λ (o : Option Contents). IfSome o (λ files. IsReadTree c.in-Accepted.spec.spec.signature (get files c.as_str-2.result.now) c.in_ok-tree.field-0)) c.in_ok-spec.ensures.kept c.in_ok-tree.ensures.told)
    (λ files read tree_read.
    second_refused (get files c.args.spec.now) (get files c.args.tree.now) c.in_ok-spec.field-0
    (subst (λ (name : List ℕ). IsReadSpecification (get files name) c.in_ok-spec.field-0) c.as_str.ensures read) c.in-Accepted.spec c.in-Accepted.is c.in_ok-tree.field-0
    (subst (λ (name : List ℕ). IsReadTree c.in-Accepted.spec.spec.signature (get files name) c.in_ok-tree.field-0) c.as_str-2.ensures tree_read) c.in-Refused-2.bytes c.in-Refused-2.is c.refusal-in-Refused-2.result c.refusal-in-Refused-2.ensures)

pub returns-clause-told : goal.returns-clause-told
returns-clause-told g c = both_some (g.F.Folder.held c.args.folder.now) c.in_ok-spec.ensures.told
    (subst (λ (o : Option Contents). IfSome o (λ files. IsReadTree c.in-Accepted.spec.spec.signature (get files c.as_str-2.result.now) c.in_ok-tree.field-0)) c.in_ok-spec.ensures.kept c.in_ok-tree.ensures.told)
    (λ files read tree_read.
    both_accepted (get files c.args.spec.now) (get files c.args.tree.now) c.in_ok-spec.field-0
    (subst (λ (name : List ℕ). IsReadSpecification (get files name) c.in_ok-spec.field-0) c.as_str.ensures read) c.in-Accepted.spec c.in-Accepted.is c.in_ok-tree.field-0
    (subst (λ (name : List ℕ). IsReadTree c.in-Accepted.spec.spec.signature (get files name) c.in_ok-tree.field-0) c.as_str-2.ensures tree_read) c.in-Accepted-2.tree c.in-Accepted-2.is c.in_ok-bytes.bytes.items c.in_ok-bytes.ensures)
