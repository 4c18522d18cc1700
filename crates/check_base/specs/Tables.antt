-- The tables in which names are looked up.
use Rattle.std.specs.Prelude.{◌≡◌, ℕ, Bool, ◌==◌, ◌&&◌, List, Option, None, Some, if◌then◌else◌, is_some, map, bytes_eq, slice_get, option_and_then}
use Rattle.std.specs.Borrow.{Bor}
use Rattle.std.specs.HashMap.{HashMap}
use Rattle.std.specs.Map.{lookup}
use Rattle.flow_syntax.specs.declared.spec.Spec.{Spec}
use Rattle.check_base.specs.declared.names.ConstructorNames.{ConstructorNames}
use Rattle.check_base.specs.declared.names.MemberNames.{MemberNames}
use Rattle.check_base.specs.declared.names.Names.{Names}
use Rattle.check_base.specs.declared.names.SectionNames.{SectionNames}
use Rattle.check_base.specs.Names.{enum_named, lattice_named, function_named, property_named, first_rule_of, enum_with_item, lattice_with_element, element_named, element_of, constructor_named, is_constructor, is_sort}

-- what a table has for a text
abbrev pub value_in : {V S : Type 0} → HashMap (Bor (List ℕ)) V S → List ℕ → Option V
value_in table x = lookup (λ key. bytes_eq x key.now) table.entries

-- what a table has for a text and a count
abbrev pub shape_in : {V S : Type 0} → HashMap (Bor (List ℕ) × ℕ) V S → List ℕ → ℕ → Option V
shape_in table x n = lookup (λ key. bytes_eq x key.0.now && (n == key.1)) table.entries

-- the first of two, where the second is there if a test passes
abbrev pub or_where : {V : Type 0} → Option V → Bool → V → Option V
or_where None passes v = if passes then Some v else None
or_where (Some u) passes v = Some u

-- the number of the enum that is called x
abbrev pub enum_in : Names → List ℕ → Option ℕ
enum_in names x = value_in names.sections.enums x

-- the number of the lattice that is called x
abbrev pub lattice_in : Names → List ℕ → Option ℕ
lattice_in names x = value_in names.sections.lattices x

-- the number of the function that is called x
abbrev pub function_in : Names → List ℕ → Option ℕ
function_in names x = value_in names.sections.functions x

-- the number of the property that is called x
abbrev pub property_in : Names → List ℕ → Option ℕ
property_in names x = value_in names.sections.properties x

-- the number of the first rule of the property that is called x
abbrev pub first_rule_in : Names → List ℕ → Option ℕ
first_rule_in names x = value_in names.sections.rules x

-- the number of the enum with an item that is called x
abbrev pub enum_of_item_in : Names → List ℕ → Option ℕ
enum_of_item_in names x = value_in names.members.items x

-- the number of the lattice with an element that is called x
abbrev pub lattice_of_element_in : Names → List ℕ → Option ℕ
lattice_of_element_in names x = value_in names.members.elements x

-- the number of the element x in the lattice with this number
abbrev pub element_in : Names → ℕ → List ℕ → Option ℕ
element_in names n x = option_and_then (λ table. value_in table x) (slice_get names.members.elements_of.items n)

-- the number of the constructor that is called x and has n arguments
abbrev pub constructor_in : Names → List ℕ → ℕ → Option ℕ
constructor_in names x n = shape_in names.constructors.shapes x n

-- whether a constructor is called x
abbrev pub is_constructor_in : Names → List ℕ → Bool
is_constructor_in names x = is_some (value_in names.constructors.names x)

-- whether x is a sort
abbrev pub is_sort_in : Names → List ℕ → Bool
is_sort_in names x = is_some (value_in names.constructors.sorts x)

-- The names of the sections are those of this specification.
pub record AreSectionNames (spec : Spec) (names : SectionNames) : Type 0 where
  pub enums : (x : List ℕ) → value_in names.enums x ≡ enum_named spec x
  pub lattices : (x : List ℕ) → value_in names.lattices x ≡ lattice_named spec x
  pub functions : (x : List ℕ) → value_in names.functions x ≡ function_named spec x
  pub properties : (x : List ℕ) → value_in names.properties x ≡ property_named spec x
  pub rules : (x : List ℕ) → value_in names.rules x ≡ first_rule_of spec x

-- The names of items and elements are those of this specification.
pub record AreMemberNames (spec : Spec) (names : MemberNames) : Type 0 where
  pub items : (x : List ℕ) → value_in names.items x ≡ enum_with_item spec x
  pub elements : (x : List ℕ) → value_in names.elements x ≡ lattice_with_element spec x
  pub elements_of : (x : List ℕ) → map (λ table. value_in table x) names.elements_of.items ≡ map (λ lattice. element_named lattice x) spec.lattices

-- The names of constructors and sorts are those of this specification.
pub record AreConstructorNames (spec : Spec) (names : ConstructorNames) : Type 0 where
  pub shapes : (x : List ℕ) (n : ℕ) → shape_in names.shapes x n ≡ constructor_named spec x n
  pub called : (x : List ℕ) → is_some (value_in names.names x) ≡ is_constructor spec x
  pub sorts : (x : List ℕ) → is_some (value_in names.sorts x) ≡ is_sort spec x

-- The names are those of this specification: each look-up answers what the name stands for.
pub record AreNames (spec : Spec) (names : Names) : Type 0 where
  pub enums : (x : List ℕ) → enum_in names x ≡ enum_named spec x
  pub lattices : (x : List ℕ) → lattice_in names x ≡ lattice_named spec x
  pub functions : (x : List ℕ) → function_in names x ≡ function_named spec x
  pub properties : (x : List ℕ) → property_in names x ≡ property_named spec x
  pub rules : (x : List ℕ) → first_rule_in names x ≡ first_rule_of spec x
  pub items : (x : List ℕ) → enum_of_item_in names x ≡ enum_with_item spec x
  pub elements : (x : List ℕ) → lattice_of_element_in names x ≡ lattice_with_element spec x
  pub elements_of : (n : ℕ) (x : List ℕ) → element_in names n x ≡ element_of spec n x
  pub constructors : (x : List ℕ) (n : ℕ) → constructor_in names x n ≡ constructor_named spec x n
  pub constructor_names : (x : List ℕ) → is_constructor_in names x ≡ is_constructor spec x
  pub sorts : (x : List ℕ) → is_sort_in names x ≡ is_sort spec x
