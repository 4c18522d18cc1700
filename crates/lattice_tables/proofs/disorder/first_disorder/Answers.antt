use Rattle.std.proofs.Common.{rules, sym, subst, ◌∙◌}
use borrow.Author.Tests.{tests}
use Rattle.lattice_tables.specs.inner.Disorders.{IsFirstOfFunction, function_by}
use Rattle.lattice_tables.proofs.DisorderSearch.{first_is_disorder, no_disorder, test}
use Rattle.lattice_tables.proofs.Ranges.{found_in}
use Rattle.lattice_tables.proofs.disorder.first_disorder.Goals as goal

pub returns-in_err-a : goal.returns-in_err-a
returns-in_err-a c =
    let f = function_by c.args.results.now in
    let found = found_in c.quadruples.ensures.items (test f) _ _ c.find.result c.find.ensures.ran (λ x b q k. search (rules, tests)) in
    subst (IsFirstOfFunction f) (sym c.from_residual.ensures) (no_disorder f (sym found ∙ c.in_err-a.was))

pub returns : goal.returns
returns c =
    let f = function_by c.args.results.now in
    let found = found_in c.quadruples.ensures.items (test f) _ _ c.find.result c.find.ensures.ran (λ x b q k. search (rules, tests)) in
    first_is_disorder f (((c.in_ok-a.a, c.in_ok-a.b), c.in_ok-a.c), c.in_ok-a.d) (sym found ∙ c.in_ok-a.was)
