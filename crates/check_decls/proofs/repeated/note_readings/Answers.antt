use Rattle.std.proofs.Common.{◌++◌, ap, map, ◌∙◌}
use Rattle.std.proofs.lemmas.Result.{on_ok_weaker}
use Rattle.check_decls.proofs.Meeting.{Meets-append, Meets-repeated, Meets-those}
use Rattle.check_decls.proofs.Repeats.{shapes_of_two}
use Rattle.check_decls.proofs.repeated.note_readings.Goals as goal

pub returns : goal.returns
returns c = on_ok_weaker c.meet_declared-2.result
    (λ m. Meets-repeated _ c.new-met.ensures.empty
    (Meets-those _ _
    (ap (λ xs. map (λ d. (d.name, 0)) xs ++ map (λ d. (d.name, 0)) c.as_slice-2.result.now) c.as_slice.ensures ∙ ap (λ ys. map (λ d. (d.name, 0)) c.args.spec.now.functions ++ map (λ d. (d.name, 0)) ys) c.as_slice-2.ensures
    ∙ shapes_of_two (λ d. d.name) (λ d. d.name) c.args.spec.now.functions c.args.spec.now.properties)
    (Meets-append _ _ c.in_ok-meet_declared.ensures m)))
    c.meet_declared-2.ensures
