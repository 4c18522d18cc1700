-- The lattice of sets in which less is above more, under a value for what is not reached.
use Rattle.std.specs.Prelude.{◌≡◌, ⊤, List}
use Rattle.std.specs.declared.cmp.Ordering.{Ordering}
use Rattle.std.specs.List.Sorted.{IsStrictlySortedBy}
use Rattle.lattice_sets.specs.declared.must.MustV.{MustV}
use Rattle.lattice_sets.specs.declared.must.MustV.TheVariants.{Unreached, Set}
use Rattle.lattice_sets.specs.Sets.{Includes, IsIntersection, intersection_of}

-- a set that rises is valid, and so is what is not reached
abbrev pub IsMust : {E : Type 0} → (E → E → Ordering) → MustV E → Type 0
IsMust R Unreached = ⊤
IsMust R (Set a) = IsStrictlySortedBy R a

-- what is not reached has no say; of two sets, what both have
abbrev pub must_join : {E : Type 0} → (E → E → Ordering) → MustV E → MustV E → MustV E
must_join R Unreached b = b
must_join R (Set a) Unreached = Set a
must_join R (Set a) (Set b) = Set (intersection_of R a b)

-- what is not reached is below all; a set is below those that it includes
abbrev pub IsBelowMust : {E : Type 0} → MustV E → MustV E → Type 0
IsBelowMust Unreached b = ⊤
IsBelowMust (Set a) Unreached = ⊥
IsBelowMust (Set a) (Set b) = Includes a b

-- the join of two sets is their intersection
abbrev pub JoinsByIntersection : {E : Type 0} → (E → E → Ordering) → (MustV E → MustV E → MustV E) → Type 0
JoinsByIntersection {E} R join = (a b : List E) → IsStrictlySortedBy R a → IsStrictlySortedBy R b → (c : List E) × (join (Set a) (Set b) ≡ Set c) × IsIntersection R a b c
