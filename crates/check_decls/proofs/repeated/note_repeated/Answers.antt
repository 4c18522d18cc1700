use Rattle.std.proofs.lemmas.Result.{on_ok_weaker}
use Rattle.check_decls.proofs.Repeats.{all_repeated}
use Rattle.check_decls.proofs.repeated.note_repeated.Goals as goal

pub returns : goal.returns
returns c = on_ok_weaker c.note_constructors.result (all_repeated c.args.spec.now c.in_ok-note_types.ensures c.in_ok-note_readings.ensures c.in_ok-note_constants.ensures) c.note_constructors.ensures
