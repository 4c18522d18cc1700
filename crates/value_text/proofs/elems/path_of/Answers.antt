use Rattle.std.proofs.lemmas.Result.{err_from_is_err_and}
use Rattle.value_text.proofs.Paths.{no_path, path_read}
use Rattle.value_text.proofs.elems.path_of.Goals as goal

pub returns-in_err-path : goal.returns-in_err-path
returns-in_err-path c =
    let p = err_from_is_err_and c.from_residual.result c.from_residual.ensures.1 in
    rw p.1 (no_path c.in_err-path.field-0.0 p.0 c.args.bytes.now p.2 c.in_err-path.ensures.only)

pub returns : goal.returns
returns c = path_read c.in_ok-path.path c.args.bytes.now c.steps_are_small.ensures c.in_ok-path.ensures.found
