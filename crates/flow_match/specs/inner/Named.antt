-- Numbers by the names of roots.
use Rattle.std.specs.Prelude.{◌≡◌, ◌==◌, ℕ, Bool, false, cond, List, Option, Some, None, bytes_eq}
use Rattle.std.specs.List.{list_any}
use Rattle.std.specs.Option.{option_map_or}
use Rattle.std.specs.Cmp.Lexicographic.{pointwise}
use Rattle.indexmap.specs.IndexMap.{IndexMap, get}
use Rattle.flow_syntax.specs.declared.pattern.Pattern.{Pattern}
use Rattle.flow_match.specs.Index.{candidates, root_name}

-- whether a root has this name
abbrev pub is_named : List ℕ → Option (List ℕ) → Bool
is_named name root = option_map_or (λ c. bytes_eq c name) root false

-- A table has the candidates of each name that a root of the first ones has.
abbrev pub HasNames : {X S : Type 0} → (X → Pattern) → List X → List X → IndexMap (List ℕ) (List ℕ) S → Type 0
HasNames pattern xs first by_name = (name : List ℕ) →
    get (pointwise ◌==◌) by_name name ≡ cond (list_any (λ x. is_named name (root_name (pattern x))) first) (Some (candidates pattern xs (Some name))) None

-- A table has those of this root too.
abbrev pub AddsName : {X S : Type 0} → (X → Pattern) → List X → Option (List ℕ) → IndexMap (List ℕ) (List ℕ) S → IndexMap (List ℕ) (List ℕ) S → Type 0
AddsName pattern xs root old new = (name : List ℕ) →
    get (pointwise ◌==◌) new name ≡ cond (is_named name root) (Some (candidates pattern xs (Some name))) (get (pointwise ◌==◌) old name)
