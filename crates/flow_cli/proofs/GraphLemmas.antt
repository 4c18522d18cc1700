-- The output of `graph`, by what its files gave.
use Rattle.std.proofs.Common.{◌≡◌, ℕ, List, Option, Vec, Global, refl, sym, subst}
use Rattle.flow_term.specs.declared.term.Term.{Term}
use Rattle.flow_syntax.specs.declared.spec.TypedSpec.{TypedSpec}
use Rattle.flow_cli.specs.declared.files.Read.{Read}
use Rattle.flow_cli.specs.declared.files.Read.TheVariants.{Accepted, Refused}
use Rattle.flow_cli.specs.declared.output.End.TheVariants as end
use Rattle.flow_cli.specs.declared.output.Output.{Output}
use Rattle.flow_cli.specs.Files.{IsRefusedSpecification, IsRefusedTree}
use Rattle.flow_cli.specs.GraphText.{GraphText}
use Rattle.flow_cli.specs.inner.Read.{IsReadSpecification, IsReadTree}
use Rattle.flow_cli.specs.Whole.{IsGraphOutput, refused_specification, refused_tree, printed}

module _ (sc tc : Option (List ℕ)) (spec_read : Read TypedSpec) (spec_told : IsReadSpecification sc spec_read) where
  pub first_refused : (line : Vec ℕ Global) → spec_read ≡ Refused line → (out : Output) → (out.bytes.items ≡ line.items) × (out.end ≡ end.Refused) → IsGraphOutput sc tc out.bytes.items out.end
  first_refused line is out e = refused_specification
      (subst (λ (bytes : List ℕ). IsRefusedSpecification sc bytes) (sym e.0) (subst (λ (r : Read TypedSpec). IsReadSpecification sc r) is spec_told)) e.1

  module _ (typed : TypedSpec) (is_spec : spec_read ≡ Accepted typed) (tree_read : Read Term) (tree_told : IsReadTree typed.spec.signature tc tree_read) where
    pub second_refused : (line : Vec ℕ Global) → tree_read ≡ Refused line → (out : Output) → (out.bytes.items ≡ line.items) × (out.end ≡ end.Refused) → IsGraphOutput sc tc out.bytes.items out.end
    second_refused line is out e = refused_tree typed.spec (subst (λ (r : Read TypedSpec). IsReadSpecification sc r) is_spec spec_told)
        (subst (λ (bytes : List ℕ). IsRefusedTree typed.spec.signature tc bytes) (sym e.0) (subst (λ (r : Read Term). IsReadTree typed.spec.signature tc r) is tree_told)) e.1

    pub both_accepted : (tree : Term) → tree_read ≡ Accepted tree → (bytes : List ℕ) → GraphText typed.spec tree bytes → IsGraphOutput sc tc bytes end.Done
    both_accepted tree is bytes text = printed typed.spec tree (subst (λ (r : Read TypedSpec). IsReadSpecification sc r) is_spec spec_told)
        (subst (λ (r : Read Term). IsReadTree typed.spec.signature tc r) is tree_told) text refl
