-- Pairs of values of two lattices, part by part.
use Rattle.lattice_sets.specs.declared.pair.PairV.{PairV}

abbrev pub pair : {V W : Type 0} → V → W → PairV V W
pair v w = record { left = v; right = w }

-- both parts are valid
abbrev pub IsPair : {V W : Type 0} → (V → Type 0) → (W → Type 0) → PairV V W → Type 0
IsPair ValidLeft ValidRight a = ValidLeft a.left × ValidRight a.right

-- the join of the left parts and that of the right parts
abbrev pub pair_join : {V W : Type 0} → (V → V → V) → (W → W → W) → PairV V W → PairV V W → PairV V W
pair_join left right a b = pair (left a.left b.left) (right a.right b.right)

-- each part is below the other's
abbrev pub IsBelowPair : {V W : Type 0} → (V → V → Type 0) → (W → W → Type 0) → PairV V W → PairV V W → Type 0
IsBelowPair BelowLeft BelowRight a b = BelowLeft a.left b.left × BelowRight a.right b.right
