-- Which specifications without faults are accepted, and for which cause others are refused.
use Rattle.std.specs.Prelude.{◌≡◌, ℕ, ◌<◌, List, Contains, Some, false, slice_get}
use Rattle.flow_syntax.specs.declared.property.PropRule.{PropRule}
use Rattle.flow_syntax.specs.declared.spec.Spec.{Spec}
use Rattle.flow_syntax.specs.declared.tables.FunctionDecl.{FunctionDecl}
use Rattle.flow_syntax.specs.declared.tables.TableDecl.{TableDecl}
use Rattle.flow_syntax.specs.Types.{Typing}
use Rattle.value_domains.specs.Domains.{table_of}
use Rattle.value_domains.specs.Lawful.{IsLawfulTable}
use Rattle.table_laws.specs.declared.fault.LawFault.{LawFault}
use Rattle.table_laws.specs.FunctionTables.{Arguments, IsFirstDisorder}
use Rattle.table_laws.specs.JoinTables.{IsFirstFault}
use Rattle.lattice_tables.specs.Tables.{declared_numbers}
use Rattle.expr_meaning.specs.Functions.{IsMonotone}
use Rattle.expr_meaning.specs.Modes.{mode_of}
use Rattle.expr_meaning.specs.SpecRanges.{ranges_of}
use Rattle.function_laws.specs.Laws.{numbered_function}
use Rattle.flow_modes.specs.Modes.{first_fault_by, is_refused}
use Rattle.flow_eval.specs.declared.refusal.PrepareRefusal.{PrepareRefusal}
use Rattle.flow_eval.specs.declared.refusal.PrepareRefusal.TheVariants.{Law, NotMonotone, Mode, NoMemory}

-- The joins of each declared lattice are those of a lattice.
abbrev pub HasLawfulLattices : Spec → Type 0
HasLawfulLattices spec = (l : TableDecl) → Contains spec.lattices l → IsLawfulTable (table_of (Some l))

-- Each declared function is monotone.
abbrev pub HasMonotoneFunctions : Spec → Type 0
HasMonotoneFunctions spec = (f : FunctionDecl) → Contains spec.functions f → IsMonotone spec f

-- The body of each rule is `Fixed` or `Up`, where the expressions have these types.
abbrev pub HasRisingRules : Spec → List Typing → Type 0
HasRisingRules spec types = (rule : PropRule) → Contains spec.rules rule → is_refused (mode_of (ranges_of spec types) rule.body) ≡ false

-- A specification without faults, whose expressions have these types, is accepted.
pub record IsAccepted (spec : Spec) (types : List Typing) : Type 0 where
  pub lattices : HasLawfulLattices spec
  pub functions : HasMonotoneFunctions spec
  pub rules : HasRisingRules spec types

-- The lattice with this number is the first that breaks a law, and this is its first fault.
pub record IsFirstUnlawful (spec : Spec) (number : ℕ) (fault : LawFault) : Type 0 where
  pub lattice : TableDecl
  pub is : slice_get spec.lattices number ≡ Some lattice
  pub breaks : IsFirstFault (declared_numbers lattice) fault
  pub before : (k : ℕ) (l : TableDecl) → k < number → slice_get spec.lattices k ≡ Some l → IsLawfulTable (table_of (Some l))

-- The function with this number is the first that isn't monotone, and these are its first arguments that show it.
pub record IsFirstDisordered (spec : Spec) (number : ℕ) (lower higher : Arguments) : Type 0 where
  pub function : FunctionDecl
  pub is : slice_get spec.functions number ≡ Some function
  pub breaks : IsFirstDisorder (numbered_function spec function) lower higher
  pub before : (k : ℕ) (f : FunctionDecl) → k < number → slice_get spec.functions k ≡ Some f → IsMonotone spec f

-- A specification isn't accepted, for this cause: lattices come first, then functions, then the rules' bodies. Want of memory is no cause.
abbrev pub IsRefusedFor : Spec → List Typing → PrepareRefusal → Type 0
IsRefusedFor spec types (Law lattice fault) = IsFirstUnlawful spec lattice fault
IsRefusedFor spec types (NotMonotone function lower higher) = HasLawfulLattices spec × IsFirstDisordered spec function lower higher
IsRefusedFor spec types (Mode fault) = HasLawfulLattices spec × HasMonotoneFunctions spec × (first_fault_by (ranges_of spec types) spec.rules ≡ Some fault)
IsRefusedFor spec types NoMemory = ⊥
