-- Faults of names that aren't declared, and of the items of a list.
use Rattle.std.specs.Prelude.{◌≡◌, ℕ, Bool, false, List, Contains, is_some}
use Rattle.flow_syntax.specs.declared.fault.SpecFaultKind.{SpecFaultKind}
use Rattle.flow_syntax.specs.declared.fault.SpecFaultKind.TheVariants as kinds
use Rattle.flow_syntax.specs.declared.spec.Named.{Named}
use Rattle.check_base.specs.Earliest.{IsFaultWhere}
use Rattle.check_base.specs.declared.names.Names.{Names}
use Rattle.check_base.specs.Tables.{element_in, enum_in, is_sort_in, lattice_in, property_in}
use Rattle.check_decls.specs.declared.unknown.Space.{Space}
use Rattle.check_decls.specs.declared.unknown.Space.TheVariants as space

-- One of the items of a list has the fault, where `P x` are the faults of the item x.
pub record OneHas {T : Type 0} (P : T → ℕ → SpecFaultKind → Type 0) (xs : List T) (place : ℕ) (kind : SpecFaultKind) : Type 0 where
  pub item : T
  pub among : Contains xs item
  pub has : P item place kind

-- whether a name is declared where it is looked up
abbrev pub knows : Names → Space → List ℕ → Bool
knows names space.Sorts x = is_sort_in names x
knows names space.Enums x = is_some (enum_in names x)
knows names space.Lattices x = is_some (lattice_in names x)
knows names (space.Elements n) x = is_some (element_in names n x)
knows names space.Properties x = is_some (property_in names x)

-- A name isn't known.
abbrev pub IsUndeclared : (List ℕ → Bool) → Named → ℕ → SpecFaultKind → Type 0
IsUndeclared known n = IsFaultWhere (known n.text ≡ false) n.place kinds.Unknown

-- One of these names isn't known.
abbrev pub AreUndeclared : (List ℕ → Bool) → List Named → ℕ → SpecFaultKind → Type 0
AreUndeclared known names = OneHas (IsUndeclared known) names
