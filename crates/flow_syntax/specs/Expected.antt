-- What is expected of the type of an expression, and when the expression doesn't have it.
use Rattle.std.specs.Prelude.{◌≡◌, ◌≢◌, ◌⊎◌, false, Option, Some, None, if◌then◌else◌}
use Rattle.flow_syntax.specs.Types.{Sort, pair_sort, may, must, flat, map_to, pair_of, Typing, lattice, element, Shape, anything, any_set, any_may, any_must, any_map, any_lattice, has_shape}
use Rattle.flow_syntax.specs.Inferred.{Inferred, is, not_inferable, faulty, key_sort, value_of}

-- What is expected of the type of an expression:
pub data Expected : Type 0 where
  -- that it is this one
  known : Typing → Expected
  -- that it can be inferred and is in the group
  inferred_in : Shape → Expected
  -- that it is in the group; where it can't be inferred, the whole of which the expression is a part can't be inferred either
  own_choice : Shape → Expected
  -- that it is in the group if it can be inferred: what is expected follows from an expression with a fault
  if_inferred_in : Shape → Expected

-- nothing
abbrev pub unconstrained : Expected
unconstrained = if_inferred_in anything

abbrev pub known_sort : Option Sort → Expected
known_sort (Some s) = known (element s)
known_sort None = unconstrained

-- Of an expression of a form with types of this group, another type is inferred than the expected one. A pair, an update and an operation of two lattice values
-- have types of a smaller group, and are inferred from parts of which that of the expected type is expected: where another one is inferred, a part has the fault, and the whole has none.
abbrev pub IsOther : Shape → Typing → Inferred → Type 0
IsOther anything expected_type (is t) = t ≢ expected_type
IsOther form expected_type inferred_type = ⊥

-- A type that is inferred is outside the group.
abbrev pub IsOutside : Shape → Inferred → Type 0
IsOutside shape (is t) = has_shape shape t ≡ false
IsOutside shape not_inferable = ⊥
IsOutside shape faulty = ⊥

-- An expression of a form with types of this group, of which this is inferred, hasn't the type that is expected.
abbrev pub IsMismatch : Expected → Shape → Inferred → Type 0
IsMismatch (known t) form inferred_type = IsOther form t inferred_type ⊎ (has_shape form t ≡ false)
IsMismatch (inferred_in shape) form inferred_type = IsOutside shape inferred_type ⊎ (inferred_type ≡ not_inferable)
IsMismatch (own_choice shape) form inferred_type = IsOutside shape inferred_type
IsMismatch (if_inferred_in shape) form inferred_type = IsOutside shape inferred_type

-- WHAT IS EXPECTED OF THE PARTS OF A VALUE OF AN EXPECTED TYPE

-- of the elements of a set
abbrev pub expected_element : Expected → Expected
expected_element (known (lattice (may s))) = known (element s)
expected_element (known (lattice (must s))) = known (element s)
expected_element expected = unconstrained

-- the group of the sets from which another is made: they are of the same kind
abbrev pub source_shape : Expected → Shape
source_shape (known (lattice (may s))) = any_may
source_shape (known (lattice (must s))) = any_must
source_shape expected = any_set

-- of the set from which another is made
abbrev pub expected_source : Expected → Expected
expected_source expected = inferred_in (source_shape expected)

-- of the element in a flat value
abbrev pub expected_flat : Expected → Expected
expected_flat (known (lattice (flat s))) = known (element s)
expected_flat expected = unconstrained

-- of the keys of a map
abbrev pub expected_key : Expected → Expected
expected_key (known (lattice (map_to k l))) = known (element k)
expected_key expected = unconstrained

-- of the values of a map
abbrev pub expected_value : Expected → Expected
expected_value (known (lattice (map_to k l))) = known (lattice l)
expected_value expected = unconstrained

-- of a part from which the type of the whole is inferred, where that isn't known: that the part is in the group
abbrev pub expected_part : Shape → Expected → Expected
expected_part shape (inferred_in other) = own_choice shape
expected_part shape (own_choice other) = own_choice shape
expected_part shape expected = if_inferred_in shape

-- of the parts of a pair
abbrev pub expected_first : Expected → Expected
expected_first (known (element (pair_sort a b))) = known (element a)
expected_first (known (lattice (pair_of a b))) = known (lattice a)
expected_first expected = expected_part anything expected

abbrev pub expected_second : Expected → Expected
expected_second (known (element (pair_sort a b))) = known (element b)
expected_second (known (lattice (pair_of a b))) = known (lattice b)
expected_second expected = expected_part anything expected

-- of a part that has the type of the whole, which is in the group
abbrev pub expected_same : Shape → Expected → Expected
expected_same shape (known t) = if has_shape shape t then known t else unconstrained
expected_same shape expected = unconstrained

-- of the left operand of a form with types of this group: the type of the whole, else that it is in the group
abbrev pub expected_left : Shape → Expected → Expected
expected_left shape (known t) = if has_shape shape t then known t else if_inferred_in shape
expected_left shape expected = expected_part shape expected

-- of the map that is updated: the type of the whole; where the whole is to be inferred, it is inferred from the map
abbrev pub expected_map : Expected → Expected
expected_map (known t) = expected_left any_map (known t)
expected_map (inferred_in shape) = inferred_in any_map
expected_map (own_choice shape) = inferred_in any_map
expected_map (if_inferred_in shape) = if_inferred_in any_map

-- of what has the type of a left operand
abbrev pub same_type_as : Shape → Inferred → Expected
same_type_as shape (is t) = if has_shape shape t then known t else unconstrained
same_type_as shape inferred_type = unconstrained

-- of a right operand: the type of the whole where that is known, else what is inferred of the left one
abbrev pub expected_right : Shape → Expected → Inferred → Expected
expected_right shape (known t) left = if has_shape shape t then known t else unconstrained
expected_right shape expected left = same_type_as shape left

-- of the key of an update, of whose map this is inferred
abbrev pub expected_updated_key : Expected → Inferred → Expected
expected_updated_key (known t) map = expected_key (known t)
expected_updated_key expected map = known_sort (key_sort map)

-- of the new value of an update
abbrev pub expected_updated_value : Expected → Inferred → Expected
expected_updated_value (known t) map = expected_value (known t)
expected_updated_value expected map = same_type_as any_lattice (value_of map)
