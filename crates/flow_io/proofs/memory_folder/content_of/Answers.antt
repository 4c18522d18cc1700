use Rattle.std.proofs.Common.{Some, sym, ap, ◌∙◌}
use Rattle.flow_io.proofs.EntriesLemmas.{content_at, get-contents}
use Rattle.flow_io.proofs.memory_folder.content_of.Goals as goal

pub returns-in_err-at : goal.returns-in_err-at
returns-in_err-at c =
    rw c.from_residual.ensures
    (sym (get-contents c.args.files.now c.args.name.now ∙ c.in_err-at.ensures.none))

pub returns : goal.returns
returns c =
    ap Some c.as_slice.ensures.value
    ∙ sym (content_at c.args.files.now c.args.name.now c.in_ok-at.at c.index-files-at.result c.in_ok-at.ensures.found)
