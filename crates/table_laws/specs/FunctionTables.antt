-- Functions between lattices by the numbers of their elements, and where they aren't monotone.
use Rattle.std.specs.Prelude.{◌≡◌, ◌*◌, ℕ, List, [], ◌∷◌, All, length}
use Rattle.table_laws.specs.JoinTables.{JoinTable, IsElement, IsBelow, entry_at}
use Rattle.table_laws.specs.Tuples.{IsFirst}

-- the lattices of two arguments and of the results, and the result for each two arguments, row by row; where there is one argument, the second is
-- the element of the lattice of one element
pub record FunctionTable : Type 0 where
  pub left : JoinTable
  pub right : JoinTable
  pub to : JoinTable
  pub results : List ℕ

abbrev pub result_of : FunctionTable → ℕ → ℕ → ℕ
result_of f a b = entry_at f.right.count f.results a b

-- each two arguments have a result, which is an element
pub record IsTotal (f : FunctionTable) : Type 0 where
  pub size : length f.results ≡ f.left.count * f.right.count
  pub entries : All (IsElement f.to) f.results

-- greater arguments give a greater result
abbrev pub IsMonotone : FunctionTable → Type 0
IsMonotone f = (a b c d : ℕ) → IsElement f.left a → IsElement f.right b → IsElement f.left c → IsElement f.right d → IsBelow f.left a c → IsBelow f.right b d
    → IsBelow f.to (result_of f a b) (result_of f c d)

-- the numbers of two arguments
abbrev pub Arguments : Type 0
Arguments = ℕ × ℕ

-- Some arguments are below others, and their result isn't below that of the others.
pub record IsDisordered (f : FunctionTable) (lower higher : Arguments) : Type 0 where
  pub lower_are : IsElement f.left lower.0 × IsElement f.right lower.1
  pub higher_are : IsElement f.left higher.0 × IsElement f.right higher.1
  pub left_below : IsBelow f.left lower.0 higher.0
  pub right_below : IsBelow f.right lower.1 higher.1
  pub results_apart : IsBelow f.to (result_of f lower.0 lower.1) (result_of f higher.0 higher.1) → ⊥

-- the lower arguments, and then the higher ones
abbrev pub tuple_of : Arguments × Arguments → List ℕ
tuple_of p = p.0.0 ∷ p.0.1 ∷ p.1.0 ∷ p.1.1 ∷ []

abbrev pub IsFirstDisorder : FunctionTable → Arguments → Arguments → Type 0
IsFirstDisorder f lower higher = IsFirst tuple_of (λ p. IsDisordered f p.0 p.1) (lower, higher)
