use Rattle.std.proofs.lemmas.Result.{on_ok_weaker}
use Rattle.check_decls.proofs.Whole.{whole_faults}
use Rattle.check_decls.proofs.check.check_declarations.Goals as goal

pub returns : goal.returns
returns c = on_ok_weaker c.note_repeated.result (whole_faults c.args.spec.now c.args.names.now c.requires c.note_sections.ensures) c.note_repeated.ensures
