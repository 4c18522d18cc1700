-- A test for the least value answers as the one of the meaning.
use Rattle.std.proofs.Common.{◌≡◌, Bool, true, false, refl, sym, ap, ◌∙◌}
use Rattle.std.specs.Prelude.{◌↔◌}
use Rattle.flow_term.specs.declared.value.Value.{Value}
use Rattle.value_domains.specs.Domains.{Domain, IsValueOf, least_of}
use Rattle.lattice_sets.specs.SetLaws.{same_test}
use Rattle.expr_meaning.specs.Meaning.{is_least}
use Rattle.expr_meaning.proofs.ValueForms.{is_least_right}
use Rattle.expr_meaning.proofs.Members.{least_is}

pub least_told : (d : Domain) (v : Value) (r : Bool) → IsValueOf d v → (r ≡ true) ↔ (v ≡ least_of d) → r ≡ is_least d v
least_told d v r fits told = by r told (is_least d v) refl
  where
    by : (r : Bool) → (r ≡ true) ↔ (v ≡ least_of d) → (b : Bool) → is_least d v ≡ b → r ≡ b
    by true told true e = refl
    by true told false e = sym (ap (is_least d) (told.0 refl) ∙ least_is d) ∙ e
    by false told true e = told.1 (is_least_right d v fits e)
    by false told false e = refl
