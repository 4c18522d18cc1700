use Rattle.std.proofs.Common.{sym, ◌∙◌}
use Rattle.std.proofs.lemmas.Bool.{true≢false}
use Rattle.std.proofs.lemmas.Slice.Eq.{bytes_eq-Decides}
use Rattle.eval_values.proofs.NamePlaces.{place_found, place_passed}
use Rattle.eval_values.proofs.calls.place_of.Goals as goal

pub returns-then-eq : goal.returns-then-eq
returns-then-eq c = place_found _ c.loop-at.at c.index-names-at.result _ c.loop-at-test.true c.index-names-at.is c.loop-at.invariant (sym c.as_str.ensures ∙ (bytes_eq-Decides c.as_str.result.now c.args.name.now).0 (sym c.eq.ensures ∙ c.if-eq.true))

pub loop-at-preserved : goal.loop-at-preserved
loop-at-preserved c =
    place_passed _ c.loop-at.at c.index-names-at.result _ c.loop-at-test.true c.index-names-at.is c.loop-at.invariant
    (λ same. true≢false (sym ((bytes_eq-Decides c.as_str.result.now c.args.name.now).1 (c.as_str.ensures ∙ same)) ∙ sym c.eq.ensures ∙ c.if-eq.false))
