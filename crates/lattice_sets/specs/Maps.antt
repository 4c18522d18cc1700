-- Maps as lists of entries whose keys rise strictly.
use Rattle.std.specs.Prelude.{◌≡◌, ℕ, ◌<◌, ◌≤◌, List, [], ◌∷◌, length, insert, Option, Some, None, unwrap_or, Result, MatchResult, All}
use Rattle.std.specs.declared.cmp.Ordering.{Ordering}
use Rattle.std.specs.List.{HoldsAt, slice_set}
use Rattle.std.specs.List.Sorted.{IsStrictlySortedBy}
use Rattle.std.specs.Map.{keys_of, values_of, lookup}
use Rattle.std.specs.BTreeMap.{insert_entry, is_at}

-- the value at the key, where there is one
abbrev pub value_at : {K V : Type 0} → (K → K → Ordering) → List (K × V) → K → Option V
value_at R m k = lookup (is_at (R k)) m

-- new has the value at the key, and at each other key what old has; its keys rise
pub record IsPut {K V : Type 0} (R : K → K → Ordering) (k : K) (v : V) (old new : List (K × V)) : Type 0 where
  pub rising : IsStrictlySortedBy R (keys_of new)
  pub here : value_at R new k ≡ Some v
  pub elsewhere : (q : K) → (q ≡ k → ⊥) → value_at R new q ≡ value_at R old q

-- each value is valid and isn't the least
abbrev pub AllKept : {K V : Type 0} → (V → Type 0) → V → List (K × V) → Type 0
AllKept Valid least m = All (λ v. Valid v × (v ≡ least → ⊥)) (values_of m)

-- the keys rise, and each value is valid and isn't the least
pub record IsMap {K V : Type 0} (R : K → K → Ordering) (Valid : V → Type 0) (least : V) (m : List (K × V)) : Type 0 where
  pub rising : IsStrictlySortedBy R (keys_of m)
  pub kept : AllKept Valid least m

-- a value joined to the one that stands at its key, if there is one
abbrev pub joined_to : {V : Type 0} → (V → V → V) → Option V → V → V
joined_to joined None w = w
joined_to joined (Some v) w = joined v w

-- a with the entries of b joined in, one after another
abbrev pub map_join : {K V : Type 0} → (K → K → Ordering) → (V → V → V) → List (K × V) → List (K × V) → List (K × V)
map_join R joined a [] = a
map_join R joined a (e ∷ es) = map_join R joined (insert_entry R a e.0 (joined_to joined (value_at R a e.0) e.1)) es

-- the value at the key, the least one where the key is absent
abbrev pub value_or : {K V : Type 0} → (K → K → Ordering) → V → List (K × V) → K → V
value_or R least m k = unwrap_or (value_at R m k) least

-- at each key the value of a is below that of b
abbrev pub IsBelowMap : {K V : Type 0} → (K → K → Ordering) → V → (V → V → Type 0) → List (K × V) → List (K × V) → Type 0
IsBelowMap {K} R least Below a b = (k : K) → Below (value_or R least a k) (value_or R least b k)

-- the value of a join at a key is the join of the values there
abbrev pub IsPointwise : {K V : Type 0} → (K → K → Ordering) → (V → Type 0) → V → (V → V → V) → (List (K × V) → List (K × V) → List (K × V)) → Type 0
IsPointwise {K} {V} R Valid least joined join = (a b : List (K × V)) → IsMap R Valid least a → IsMap R Valid least b → (k : K) → value_or R least (join a b) k ≡ joined (value_or R least a k) (value_or R least b k)

-- a valid map stays valid when a valid value other than the least is put into it
abbrev pub PutsKept : {K V : Type 0} → (K → K → Ordering) → (V → Type 0) → V → (List (K × V) → Type 0) → Type 0
PutsKept {K} {V} R Valid least IsValid = (k : K) (v : V) (old new : List (K × V)) → IsValid old → Valid v → (v ≡ least → ⊥) → IsPut R k v old new → IsValid new

-- where a search for a key ends: at its entry, or where it is missing and an entry for it is to be inserted
abbrev pub IsKeyPlace : {K V : Type 0} → (K → K → Ordering) → List (K × V) → K → Result ℕ ℕ → Type 0
IsKeyPlace {K} {V} R m k r = MatchResult r
    (λ i. (i < length m) × HoldsAt (λ e. value_at R m k ≡ Some e.1) m i × ((v : V) → IsPut R k v m (slice_set m i (k, v))))
    (λ i. (i ≤ length m) × (value_at R m k ≡ None) × ((v : V) → IsPut R k v m (insert m i (k, v))))
