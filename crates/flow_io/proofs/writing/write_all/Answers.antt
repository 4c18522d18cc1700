use Rattle.std.proofs.Common.{◌≡◌, ◌-◌, length, take, drop, arith, length-drop}
use Rattle.std.proofs.lemmas.List.{take_all}
use Rattle.flow_io.proofs.PiecesLemmas.{appended_more}
use Rattle.flow_io.proofs.writing.write_all.Goals as goal

pub loop-done-preserved : goal.loop-done-preserved
loop-done-preserved g c =
    let bytes = c.args.bytes.now in
    let done = c.loop-done.done in
    let rest : take (length bytes - done) (drop done bytes) ≡ drop done bytes = take_all _ _ (omega (arith, length-drop done bytes)) in
    let fits = rw rest at c.in_ok-taken.ensures.taken in
    let piece = rw rest at c.in_ok-taken.ensures.appended in (
      omega (arith, fits.0, length-drop done bytes),
      appended_more _ _ _ bytes done c.in_ok-taken.taken c.loop-done.invariant.1 piece,
      omega arith,
    )
