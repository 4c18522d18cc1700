use Rattle.std.proofs.Common.{ap, subst, sym, ◌∙◌}
use Rattle.simple_rules.specs.inner.Least.{IsAtFunction, IsAtLattice, IsAtOtherBody, IsLeast, SomeHas, lesser_of}
use Rattle.simple_rules.specs.Simple.{IsNotYet}
use Rattle.simple_rules.proofs.PlaceLemmas.{least_of_spec}
use Rattle.simple_rules.proofs.first.first_not_yet.Goals as goal

pub returns : goal.returns
returns c =
    subst (IsLeast (IsNotYet c.args.spec.now))
    (sym (c.lesser.ensures ∙ ap (λ a. lesser_of a c.first_body.result) c.lesser-declared.ensures))
    (least_of_spec c.args.spec.now c.first_lattice.result c.first_function.result c.first_body.result
    (subst (λ xs. IsLeast (SomeHas IsAtLattice xs) c.first_lattice.result) c.as_slice.ensures c.first_lattice.ensures)
    (subst (λ xs. IsLeast (SomeHas IsAtFunction xs) c.first_function.result) c.as_slice-2.ensures c.first_function.ensures)
    (subst (λ xs. IsLeast (SomeHas IsAtOtherBody xs) c.first_body.result) c.as_slice-3.ensures c.first_body.ensures))
