-- When two values, and two entries, are one.
use Rattle.std.proofs.Common.{◌≡◌, ◌↔◌, Bool, true, false, sym, ap, ◌∙◌}
use Rattle.std.specs.Ordering.{eq_by_cmp}
use Rattle.std.proofs.lemmas.Bool.{both_ways}
use Rattle.flow_term.specs.declared.elem.Elem.{Elem}
use Rattle.flow_term.specs.declared.value.Value.{Value, Value-F, out-Value}
use Rattle.flow_term.specs.declared.value.Value.TheVariants as value
use Rattle.flow_term.specs.declared.value.Entry.{Entry}
use Rattle.flow_term.specs.Elements.{elem_cmp}
use Rattle.value_domains.specs.Values.{ValueLayer}
use Rattle.lattice_sets.specs.SetLaws.{same_tied, ties_itself}
use Rattle.value_domains.specs.inner.Elements.{elem_total, elem_exact}

-- what a test of two elements tells
pub elem_told : (x y : Elem) (r : Bool) → r ≡ eq_by_cmp elem_cmp x y → (r ≡ true) ↔ (x ≡ y)
elem_told x y r is = (λ h. same_tied elem_cmp elem_total elem_exact x y (sym is ∙ h), λ h. is ∙ ap (λ z. eq_by_cmp elem_cmp z y) h ∙ ties_itself elem_cmp elem_total elem_exact y)

abbrev elem_or : Elem → ValueLayer → Elem
elem_or d (Value-F.Flat x) = x
elem_or d _ = d

pub same_flats : (a b : Value) (x y : Elem) (r : Bool) → a ≡ value.Flat x → b ≡ value.Flat y → r ≡ eq_by_cmp elem_cmp x y → (r ≡ true) ↔ (a ≡ b)
same_flats a b x y r e f is = (
  λ t. e ∙ ap value.Flat ((elem_told x y r is).0 t) ∙ sym f,
  λ s. (elem_told x y r is).1 (ap (elem_or x) (sym (value.outs-Flat x) ∙ ap out-Value (sym e ∙ s ∙ f) ∙ value.outs-Flat y)),
)

pub same_entry : (a b : Entry) (s : Bool) → a.key ≡ b.key → (s ≡ true) ↔ (a.value ≡ b.value) → (s ≡ true) ↔ (a ≡ b)
same_entry a b s key is = (λ t. (λ i. record { key = key i; value = is.0 t i }), λ e. is.1 (ap (λ (x : Entry). x.value) e))

pub other_entry : (a b : Entry) (r : Bool) → r ≡ false → r ≡ eq_by_cmp elem_cmp a.key b.key → (r ≡ true) ↔ (a ≡ b)
other_entry a b r missed is = (λ h. absurd (both_ways r missed h), λ e. (elem_told a.key b.key r is).1 (ap (λ (x : Entry). x.key) e))
