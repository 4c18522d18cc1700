use Rattle.std.proofs.Common.{rules, sym, subst, ◌∙◌}
use borrow.Author.Tests.{tests}
use Rattle.lattice_tables.specs.inner.Faults.{IsFirstOfLaw}
use Rattle.lattice_tables.specs.inner.Shown.{shown}
use Rattle.lattice_tables.specs.inner.Tests.{depends_on_order}
use Rattle.lattice_tables.proofs.LawSearch.{first_commutative, no_commutative}
use Rattle.lattice_tables.proofs.Ranges.{found_in}
use Rattle.lattice_tables.proofs.law_faults.commutative_fault.Goals as goal

pub returns-in_err-a : goal.returns-in_err-a
returns-in_err-a c =
    let t = shown c.args.joins.now in
    let found = found_in c.pairs.ensures.items (depends_on_order t) _ _ c.find.result c.find.ensures.ran (λ x b q k. search (rules, tests)) in
    subst (IsFirstOfLaw t _) (sym c.from_residual.ensures) (no_commutative t (sym found ∙ c.in_err-a.was))

pub returns : goal.returns
returns c =
    let t = shown c.args.joins.now in
    let found = found_in c.pairs.ensures.items (depends_on_order t) _ _ c.find.result c.find.ensures.ran (λ x b q k. search (rules, tests)) in
    first_commutative t (c.in_ok-a.a, c.in_ok-a.b) (sym found ∙ c.in_ok-a.was)
