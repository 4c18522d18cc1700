-- What a name of a specification stands for, by its number: each time the first that is declared with it.
use Rattle.std.specs.Prelude.{ℕ, Bool, false, ◌&&◌, ◌==◌, List, Option, length, bytes_eq, slice_get, option_and_then}
use Rattle.std.specs.List.{list_any, position_from}
use Rattle.std.specs.Option.{option_map_or}
use Rattle.flow_syntax.specs.declared.spec.Named.{Named}
use Rattle.flow_syntax.specs.declared.spec.Spec.{Spec}
use Rattle.flow_syntax.specs.declared.tables.TableDecl.{TableDecl}
use Rattle.flow_syntax.specs.DeclFaults.{constructors, is_tree_sort}
use Rattle.flow_syntax.specs.Inferred.{is_among}

-- whether this name is the text x
abbrev pub is_called : List ℕ → Named → Bool
is_called x name = bytes_eq x name.text

-- the number of the enum that is called x
abbrev pub enum_named : Spec → List ℕ → Option ℕ
enum_named spec x = position_from (λ d. is_called x d.name) 0 spec.enums

-- the number of the lattice that is called x
abbrev pub lattice_named : Spec → List ℕ → Option ℕ
lattice_named spec x = position_from (λ d. is_called x d.name) 0 spec.lattices

-- the number of the function that is called x
abbrev pub function_named : Spec → List ℕ → Option ℕ
function_named spec x = position_from (λ d. is_called x d.name) 0 spec.functions

-- the number of the property that is called x
abbrev pub property_named : Spec → List ℕ → Option ℕ
property_named spec x = position_from (λ d. is_called x d.name) 0 spec.properties

-- the number of the first rule of the property that is called x
abbrev pub first_rule_of : Spec → List ℕ → Option ℕ
first_rule_of spec x = position_from (λ r. is_called x r.property) 0 spec.rules

-- the number of the enum that has an item x
abbrev pub enum_with_item : Spec → List ℕ → Option ℕ
enum_with_item spec x = position_from (λ d. is_among x d.items) 0 spec.enums

-- the number of the lattice that has an element x
abbrev pub lattice_with_element : Spec → List ℕ → Option ℕ
lattice_with_element spec x = position_from (λ d. is_among x d.elements) 0 spec.lattices

-- the number of the element x in a lattice
abbrev pub element_named : TableDecl → List ℕ → Option ℕ
element_named lattice x = position_from (is_called x) 0 lattice.elements

-- the number of the element x in the lattice with this number
abbrev pub element_of : Spec → ℕ → List ℕ → Option ℕ
element_of spec n x = option_and_then (λ lattice. element_named lattice x) (slice_get spec.lattices n)

-- the number of the constructor that is called x and has n arguments
abbrev pub constructor_named : Spec → List ℕ → ℕ → Option ℕ
constructor_named spec x n = position_from (λ c. is_called x c.name && (n == length c.args)) 0 (constructors spec)

-- whether a constructor is called x, with any arguments
abbrev pub is_constructor : Spec → List ℕ → Bool
is_constructor spec x = list_any (λ c. is_called x c.name) (constructors spec)

-- whether x is a sort of the specification's signature
abbrev pub is_sort : Spec → List ℕ → Bool
is_sort spec x = option_map_or (λ signature. is_tree_sort signature x) spec.signature false
