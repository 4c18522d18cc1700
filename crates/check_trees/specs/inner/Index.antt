-- Constructors by their names.
use Rattle.std.specs.Prelude.{◌≡◌, ℕ, ◌==◌, List, [], filter, slice_get, unwrap_or, bytes_eq}
use Rattle.std.specs.List.{filter_map}
use Rattle.std.specs.Cmp.Lexicographic.{pointwise}
use Rattle.indexmap.specs.IndexMap.{IndexMap, get}
use Rattle.flow_syntax.specs.declared.signature.Constructor.{Constructor}
use Rattle.check_trees.specs.declared.constructors.Constructors.{Constructors}

-- the constructors with these numbers
abbrev pub numbered : List Constructor → List ℕ → List Constructor
numbered cs numbers = filter_map (slice_get cs) numbers

-- the constructors with this name
abbrev pub overloads : List Constructor → List ℕ → List Constructor
overloads cs name = filter (λ c. bytes_eq c.name.text name) cs

-- the numbers that an index has for a name
abbrev pub numbers_in : {S : Type 0} → IndexMap (List ℕ) (List ℕ) S → List ℕ → List ℕ
numbers_in index name = unwrap_or (get (pointwise ◌==◌) index name) []

-- The index has for each name the numbers, among all, of those of the first ones that have this name, in order.
abbrev pub IsIndexOfFirst : {S : Type 0} → List Constructor → List Constructor → IndexMap (List ℕ) (List ℕ) S → Type 0
IsIndexOfFirst all first index = (name : List ℕ) → numbered all (numbers_in index name) ≡ overloads first name

-- The index has for each name the numbers of the constructors with this name, in order.
abbrev pub IsIndexOf : List Constructor → Constructors → Type 0
IsIndexOf cs index = IsIndexOfFirst cs cs index.by_name
