-- Sets as lists that rise strictly.
use Rattle.std.specs.Prelude.{◌≡◌, ◌⊎◌, ◌↔◌, ℕ, ◌≤◌, Bool, not, List, [], ◌∷◌, length, Contains, insert, Result, MatchResult}
use Rattle.std.specs.declared.cmp.Ordering.{Ordering}
use Rattle.std.specs.List.{filter, list_any}
use Rattle.std.specs.List.Sorted.{IsStrictlySortedBy}
use Rattle.std.specs.Ordering.{eq_by_cmp}
use Rattle.std.specs.BTreeSet.{insert_key}

-- each item of b is in a
abbrev pub Includes : {E : Type 0} → List E → List E → Type 0
Includes {E} a b = (x : E) → Contains b x → Contains a x

-- c rises, and has exactly the items that a or b has
pub record IsUnion {E : Type 0} (R : E → E → Ordering) (a b c : List E) : Type 0 where
  pub rising : IsStrictlySortedBy R c
  pub items : (x : E) → Contains c x ↔ (Contains a x ⊎ Contains b x)

-- c rises, and has exactly the items that a and b have
pub record IsIntersection {E : Type 0} (R : E → E → Ordering) (a b c : List E) : Type 0 where
  pub rising : IsStrictlySortedBy R c
  pub items : (x : E) → Contains c x ↔ (Contains a x × Contains b x)

-- c rises, and has exactly the items that a has and b lacks
pub record IsDifference {E : Type 0} (R : E → E → Ordering) (a b c : List E) : Type 0 where
  pub rising : IsStrictlySortedBy R c
  pub items : (x : E) → Contains c x ↔ (Contains a x × (Contains b x → ⊥))

-- whether an item of the list ties with x
abbrev pub has_item : {E : Type 0} → (E → E → Ordering) → List E → E → Bool
has_item R xs x = list_any (eq_by_cmp R x) xs

-- a with the items of b put in, one after another
abbrev pub union_of : {E : Type 0} → (E → E → Ordering) → List E → List E → List E
union_of R a [] = a
union_of R a (y ∷ ys) = union_of R (insert_key R a y) ys

-- the items of a that b has
abbrev pub intersection_of : {E : Type 0} → (E → E → Ordering) → List E → List E → List E
intersection_of R a b = filter (λ x. has_item R b x) a

-- the items of a that b lacks
abbrev pub difference_of : {E : Type 0} → (E → E → Ordering) → List E → List E → List E
difference_of R a b = filter (λ x. not (has_item R b x)) a

-- new rises, and has exactly the items that old has, and x
pub record IsInserted {E : Type 0} (R : E → E → Ordering) (x : E) (old new : List E) : Type 0 where
  pub rising : IsStrictlySortedBy R new
  pub items : (y : E) → Contains new y ↔ (Contains old y ⊎ (y ≡ x))

-- where a search for x ends: x is there, or x is missing and an insertion at the answer puts it in its place
abbrev pub IsPlace : {E : Type 0} → (E → E → Ordering) → List E → E → Result ℕ ℕ → Type 0
IsPlace R xs x r = MatchResult r (λ i. Contains xs x) (λ i. (i ≤ length xs) × (Contains xs x → ⊥) × IsInserted R x xs (insert xs i x))
