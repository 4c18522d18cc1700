use Rattle.std.proofs.Common.{rules, refl, sym, subst, ◌∙◌}
use borrow.Author.Tests.{tests}
use Rattle.lattice_tables.specs.inner.Faults.{IsFirstOfLaw}
use Rattle.lattice_tables.specs.inner.Shown.{shown}
use Rattle.lattice_tables.specs.inner.Tests.{changes_itself}
use Rattle.lattice_tables.proofs.LawSearch.{first_idempotent, no_idempotent}
use Rattle.lattice_tables.proofs.Ranges.{below, found_in}
use Rattle.lattice_tables.proofs.law_faults.idempotent_fault.Goals as goal

pub returns-in_err-a : goal.returns-in_err-a
returns-in_err-a c =
    let t = shown c.args.joins.now in
    let found = found_in (below c.args.joins.now.count _ refl refl) (changes_itself t) _ _ c.find.result c.find.ensures.ran (λ x b q k. search (rules, tests)) in
    subst (IsFirstOfLaw t _) (sym c.from_residual.ensures) (no_idempotent t (sym found ∙ c.in_err-a.was))

pub returns : goal.returns
returns c =
    let t = shown c.args.joins.now in
    let found = found_in (below c.args.joins.now.count _ refl refl) (changes_itself t) _ _ c.find.result c.find.ensures.ran (λ x b q k. search (rules, tests)) in
    first_idempotent t c.in_ok-a.a (sym found ∙ c.in_ok-a.was)
