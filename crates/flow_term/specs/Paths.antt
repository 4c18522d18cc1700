-- Paths: their text and their order.
use Rattle.std.specs.Prelude.{◌≡◌, ◌<◌, ◌^◌, ℕ, List, [], ◌∷◌, Result, Ok, Err, decimal}
use Rattle.std.specs.List.{AllByRecursion, flat_map}
use Rattle.std.specs.Ordering.{nat_cmp}
use Rattle.std.specs.declared.cmp.Ordering.{Ordering}
use Rattle.std.specs.Cmp.Lexicographic.{slice_cmp}
use Rattle.flow_term.specs.declared.path_text.PathRefusal.{PathRefusal}
use Rattle.flow_term.specs.declared.path_text.PathRefusal.TheVariants.{Form, NoMemory}

-- a child number, after a slash
abbrev pub step_text : ℕ → List ℕ
step_text n = 47 ∷ decimal n

-- the root is a slash, and any other path is its steps
abbrev pub path_text : List ℕ → List ℕ
path_text [] = 47 ∷ []
path_text (n ∷ path) = flat_map step_text (n ∷ path)

-- paths are ordered as lists, a prefix before what continues it
abbrev pub path_cmp : List ℕ → List ℕ → Ordering
path_cmp = slice_cmp nat_cmp

-- the numbers of a path are below 2^32
abbrev pub AreSteps : List ℕ → Type 0
AreSteps path = AllByRecursion (λ n. n < 2 ^ 32) path

-- nothing, or a slash in front
abbrev pub BeginsStep : List ℕ → Type 0
BeginsStep [] = Unit {0}
BeginsStep (b ∷ rest) = b ≡ 47

-- the answer is this path, unless memory ran out
abbrev pub IsReadAs : Result (List ℕ) PathRefusal → List ℕ → Type 0
IsReadAs (Ok read) path = read ≡ path
IsReadAs (Err Form) path = ⊥
IsReadAs (Err NoMemory) path = Unit {0}
