use Rattle.std.proofs.Common.{ℕ, List, sym, subst}
use Rattle.std.specs.FinMap.{get}
use Rattle.flow_term.proofs.Outcomes.{if_ok, if_some}
use Rattle.flow_io.specs.Whole.{IsWhole}
use Rattle.flow_cli.specs.Files.{tree_limit}
use Rattle.flow_cli.proofs.FileLemmas.{read_form_of_tree, refused_tree_file}
use Rattle.flow_cli.proofs.accept.read_tree.Goals as goal

pub returns-in-Ok-clause-told : goal.returns-in-Ok-clause-told
returns-in-Ok-clause-told g c = if_some (g.F.Folder.held c.args.folder.now) c.in-Ok.ensures.told (λ files whole.
    if_ok c.tree_of.result c.tree_of.ensures.form
    (read_form_of_tree c.args.spec.now.spec.signature (get files c.args.name.now) c.as_slice.result.now (subst (λ (bytes : List ℕ). IsWhole (get files c.args.name.now) tree_limit bytes) (sym c.as_slice.ensures.value) whole)))

pub returns-in-Err-clause-told : goal.returns-in-Err-clause-told
returns-in-Err-clause-told g c = if_some (g.F.Folder.held c.args.folder.now) c.in-Err.ensures.told (λ files cause.
    if_ok c.refused.result c.refused.ensures.line (refused_tree_file c.args.spec.now.spec.signature (get files c.args.name.now) c.in-Err.refusal cause))
