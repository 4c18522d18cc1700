use Rattle.std.proofs.Common.{[], ap, length, map, sym, ◌∙◌}
use Rattle.std.specs.Option.{option_map_or}
use Rattle.std.proofs.lemmas.Result.{on_ok_weaker}
use Rattle.check_decls.proofs.Meeting.{Meets-none, Meets-repeated, Meets-those}
use Rattle.check_decls.proofs.repeated.note_constructors.Goals as goal

pub returns-in-Some : goal.returns-in-Some
returns-in-Some c = on_ok_weaker c.meet_constructors.result
    (λ m. Meets-repeated _ c.new-met.ensures.empty
    (Meets-those _ _ (ap (map (λ d. (d.name, length d.args))) c.as_slice.ensures ∙ sym (ap (λ o. map (λ d. (d.name, length d.args)) (option_map_or (λ s. s.constructors) o [])) c.in-Some.is)) m))
    c.meet_constructors.ensures

pub returns : goal.returns
returns c =
    Meets-repeated _ c.new-met.ensures.empty (Meets-those [] _ (sym (ap (λ o. map (λ d. (d.name, length d.args)) (option_map_or (λ s. s.constructors) o [])) c.in-None.is)) (Meets-none c.new-met.result c.args.earliest.now))
