use Rattle.std.proofs.Common.{sym, ◌∙◌}
use Rattle.std.proofs.lemmas.Bool.{true≢false}
use Rattle.std.proofs.lemmas.Slice.Eq.{bytes_eq-Decides}
use Rattle.lattice_tables.proofs.Names.{place_found, place_passed}
use Rattle.lattice_tables.proofs.declared.number_of.Goals as goal

pub returns-then-eq : goal.returns-then-eq
returns-then-eq c = place_found _ _ c.index-elements-at.result _ c.loop-at-test.true c.index-elements-at.is c.loop-at.invariant ((bytes_eq-Decides _ _).0 (sym c.eq.ensures ∙ c.if-eq.true))

pub loop-at-preserved : goal.loop-at-preserved
loop-at-preserved c =
    place_passed _ _ c.index-elements-at.result _ c.loop-at-test.true c.index-elements-at.is c.loop-at.invariant
    (λ same. true≢false (sym ((bytes_eq-Decides _ _).1 same) ∙ sym c.eq.ensures ∙ c.if-eq.false))
