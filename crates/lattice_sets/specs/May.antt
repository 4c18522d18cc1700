-- The lattice of sets in which more is above less.
use Rattle.std.specs.Prelude.{List}
use Rattle.std.specs.declared.cmp.Ordering.{Ordering}
use Rattle.std.specs.List.Sorted.{IsStrictlySortedBy}
use Rattle.lattice_sets.specs.Sets.{IsUnion}

-- the join of two sets is their union
abbrev pub JoinsByUnion : {E : Type 0} → (E → E → Ordering) → (List E → List E → List E) → Type 0
JoinsByUnion {E} R join = (a b : List E) → IsStrictlySortedBy R a → IsStrictlySortedBy R b → IsUnion R a b (join a b)
