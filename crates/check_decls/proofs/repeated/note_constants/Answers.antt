use Rattle.std.proofs.Common.{◌++◌, ap, map, ◌∙◌}
use Rattle.std.specs.List.{flat_map}
use Rattle.std.proofs.lemmas.Result.{on_ok_weaker}
use Rattle.check_decls.proofs.Meeting.{Meets-append, Meets-repeated, Meets-those}
use Rattle.check_decls.proofs.Repeats.{shapes_of_all}
use Rattle.check_decls.proofs.repeated.note_constants.Goals as goal

pub returns : goal.returns
returns c = on_ok_weaker c.meet_elements.result
    (λ m. Meets-repeated _ c.new-met.ensures.empty
    (Meets-those _ _
    (ap (λ xs. flat_map (λ d. map (λ n. (n, 0)) d.items) xs ++ flat_map (λ d. map (λ n. (n, 0)) d.elements) c.as_slice-2.result.now) c.as_slice.ensures
    ∙ ap (λ ys. flat_map (λ d. map (λ n. (n, 0)) d.items) c.args.spec.now.enums ++ flat_map (λ d. map (λ n. (n, 0)) d.elements) ys) c.as_slice-2.ensures
    ∙ shapes_of_all (λ d. d.items) (λ d. d.elements) c.args.spec.now.enums c.args.spec.now.lattices)
    (Meets-append _ _ c.in_ok-meet_items.ensures m)))
    c.meet_elements.ensures
