-- The types of expressions as they are compared: by their forms and names, without the places of the names.
use Rattle.std.specs.Prelude.{ℕ, Bool, true, false, List}
use Rattle.flow_syntax.specs.declared.types.ElemSort.{ElemSort, ElemSort-F, fold-ElemSort}
use Rattle.flow_syntax.specs.declared.types.LatticeType.{LatticeType, LatticeType-F, fold-LatticeType}
use Rattle.flow_syntax.specs.declared.types.ExprType.{ExprType}
use Rattle.flow_syntax.specs.declared.types.ExprType.TheVariants as declared

-- the sort of an element
pub data Sort : Type 0 where
  name_sort : Sort
  pos_sort : Sort
  str_sort : Sort
  int_sort : Sort
  enum_sort : List ℕ → Sort
  pair_sort : Sort → Sort → Sort

-- a lattice
pub data Lattice : Type 0 where
  may : Sort → Lattice
  must : Sort → Lattice
  flat : Sort → Lattice
  map_to : Sort → Lattice → Lattice
  pair_of : Lattice → Lattice → Lattice
  table : List ℕ → Lattice

-- the type of an expression
pub data Typing : Type 0 where
  lattice : Lattice → Typing
  element : Sort → Typing
  truth : Typing

-- the sort that a declared one stands for
abbrev pub sort_layer : ElemSort-F Sort → Sort
sort_layer ElemSort-F.Name = name_sort
sort_layer ElemSort-F.Pos = pos_sort
sort_layer ElemSort-F.Str = str_sort
sort_layer ElemSort-F.Int = int_sort
sort_layer (ElemSort-F.Enum named) = enum_sort named.text
sort_layer (ElemSort-F.Pair a b) = pair_sort a b

abbrev pub sort_of : ElemSort → Sort
sort_of = fold-ElemSort Sort sort_layer

-- the lattice that a declared one stands for
abbrev pub lattice_layer : LatticeType-F Lattice → Lattice
lattice_layer (LatticeType-F.May s) = may (sort_of s)
lattice_layer (LatticeType-F.Must s) = must (sort_of s)
lattice_layer (LatticeType-F.Flat s) = flat (sort_of s)
lattice_layer (LatticeType-F.Map s l) = map_to (sort_of s) l
lattice_layer (LatticeType-F.Pair a b) = pair_of a b
lattice_layer (LatticeType-F.Table named) = table named.text

abbrev pub lattice_of : LatticeType → Lattice
lattice_of = fold-LatticeType Lattice lattice_layer

abbrev pub typing_of : ExprType → Typing
typing_of (declared.Lattice l) = lattice (lattice_of l)
typing_of (declared.Elem s) = element (sort_of s)
typing_of declared.Truth = truth

-- a group of types, of which an expression's is to be one
pub data Shape : Type 0 where
  anything : Shape
  any_element : Shape
  any_lattice : Shape
  any_set : Shape
  any_may : Shape
  any_must : Shape
  any_flat : Shape
  any_map : Shape
  any_pair : Shape

-- whether a lattice is in a group
abbrev pub lattice_has : Shape → Lattice → Bool
lattice_has any_element l = false
lattice_has any_set (may s) = true
lattice_has any_set (must s) = true
lattice_has any_set l = false
lattice_has any_may (may s) = true
lattice_has any_may l = false
lattice_has any_must (must s) = true
lattice_has any_must l = false
lattice_has any_flat (flat s) = true
lattice_has any_flat l = false
lattice_has any_map (map_to s l) = true
lattice_has any_map l = false
lattice_has any_pair (pair_of a b) = true
lattice_has any_pair l = false
lattice_has any_lattice l = true
lattice_has anything l = true

-- whether a sort is in a group
abbrev pub sort_has : Shape → Sort → Bool
sort_has any_pair (pair_sort a b) = true
sort_has any_pair s = false
sort_has any_element s = true
sort_has anything s = true
sort_has shape s = false

-- whether a type is in a group
abbrev pub has_shape : Shape → Typing → Bool
has_shape shape (lattice l) = lattice_has shape l
has_shape shape (element s) = sort_has shape s
has_shape anything truth = true
has_shape shape truth = false
