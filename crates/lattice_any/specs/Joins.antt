-- What the joins of sets are, element by element.
use Rattle.std.specs.Prelude.{List}
use Rattle.std.specs.List.Sorted.{IsStrictlySortedBy}
use Rattle.flow_term.specs.declared.elem.Elem.{Elem}
use Rattle.flow_term.specs.Elements.{elem_cmp}
use Rattle.lattice_sets.specs.Sets.{IsUnion, IsIntersection}

-- of two sets the operation gives the set that has exactly the elements of either
abbrev pub GivesUnions : (List Elem → List Elem → List Elem) → Type 0
GivesUnions op = (a b : List Elem) → IsStrictlySortedBy elem_cmp a → IsStrictlySortedBy elem_cmp b → IsUnion elem_cmp a b (op a b)

-- of two sets the operation gives the set that has exactly the elements of both
abbrev pub GivesIntersections : (List Elem → List Elem → List Elem) → Type 0
GivesIntersections op = (a b : List Elem) → IsStrictlySortedBy elem_cmp a → IsStrictlySortedBy elem_cmp b → IsIntersection elem_cmp a b (op a b)
