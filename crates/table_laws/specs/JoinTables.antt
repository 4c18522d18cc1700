-- Lattices by the numbers of their elements, and the laws that their tables keep or break.
use Rattle.std.specs.Prelude.{◌≡◌, ◌≢◌, ◌<◌, ◌+◌, ◌*◌, ◌⊎◌, ℕ, List, [], ◌∷◌, All, length, map, get_or}
use Rattle.lattice_base.specs.Laws.{JoinLaws}
use Rattle.value_domains.specs.Domains.{Table, place_in}
use Rattle.table_laws.specs.declared.fault.LawFault.{LawFault}
use Rattle.table_laws.specs.declared.fault.LawFault.TheVariants.{Idempotent, Commutative, Associative, BottomLaw}
use Rattle.table_laws.specs.Tuples.{IsFirst}

-- how many elements there are, numbered from 0; the least of them; the join of each two, row by row
pub record JoinTable : Type 0 where
  pub count : ℕ
  pub bottom : ℕ
  pub join : List ℕ

-- the table of a count, a bottom and the joins
abbrev pub table_by : ℕ → ℕ → List ℕ → JoinTable
table_by count bottom join = record { count = count; bottom = bottom; join = join }

-- the entry of a table for two numbers, the second of which changes fastest
abbrev pub entry_at : ℕ → List ℕ → ℕ → ℕ → ℕ
entry_at width entries a b = get_or entries (a * width + b) 0

abbrev pub IsElement : JoinTable → ℕ → Type 0
IsElement t a = a < t.count

abbrev pub join_of : JoinTable → ℕ → ℕ → ℕ
join_of t a b = entry_at t.count t.join a b

abbrev pub IsBelow : JoinTable → ℕ → ℕ → Type 0
IsBelow t a b = join_of t a b ≡ b

-- bottom is an element, and each two elements have an entry, which is one
pub record IsComplete (t : JoinTable) : Type 0 where
  pub bottom : IsElement t t.bottom
  pub size : length t.join ≡ t.count * t.count
  pub entries : All (IsElement t) t.join

-- the joins of the table are those of a lattice
abbrev pub IsLawful : JoinTable → Type 0
IsLawful t = JoinLaws (IsElement t) t.bottom (join_of t)

-- the law that a fault names fails at the elements that it names
abbrev pub Fails : JoinTable → LawFault → Type 0
Fails t (Idempotent a) = IsElement t a × (join_of t a a ≢ a)
Fails t (Commutative a b) = IsElement t a × IsElement t b × (join_of t a b ≢ join_of t b a)
Fails t (Associative a b c) = IsElement t a × IsElement t b × IsElement t c × (join_of t (join_of t a b) c ≢ join_of t a (join_of t b c))
Fails t (BottomLaw a) = IsElement t a × ((join_of t t.bottom a ≢ a) ⊎ (join_of t a t.bottom ≢ a))

-- the number of the law that a fault names, in their order
abbrev pub law_of : LawFault → ℕ
law_of (Idempotent a) = 0
law_of (Commutative a b) = 1
law_of (Associative a b c) = 2
law_of (BottomLaw a) = 3

-- the elements that it names
abbrev pub elements_of : LawFault → List ℕ
elements_of (Idempotent a) = a ∷ []
elements_of (Commutative a b) = a ∷ b ∷ []
elements_of (Associative a b c) = a ∷ b ∷ c ∷ []
elements_of (BottomLaw a) = a ∷ []

-- no fault of an earlier law, nor of this law at lesser elements
abbrev pub IsFirstFault : JoinTable → LawFault → Type 0
IsFirstFault t = IsFirst (λ fault. law_of fault ∷ elements_of fault) (Fails t)

abbrev pub HasNoFault : JoinTable → Type 0
HasNoFault t = (fault : LawFault) → Fails t fault → ⊥

-- a table of names by the numbers of its elements
abbrev pub numbered : Table → JoinTable
numbered t = record { count = length t.elements; bottom = place_in t.elements t.bottom; join = map (place_in t.elements) t.join }

-- the table of names of a table by numbers
abbrev pub named : List (List ℕ) → JoinTable → Table
named names t = record { elements = names; bottom = get_or names t.bottom []; join = map (λ k. get_or names k []) t.join }

-- the lattice of one element
abbrev pub only_element : JoinTable
only_element = record { count = 1; bottom = 0; join = 0 ∷ [] }
