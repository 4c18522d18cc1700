-- What a search for the least misfit found.
use Rattle.std.specs.Prelude.{◌≡◌, ℕ, List, ◌++◌, Option, Some, None, Result, Ok, reverse}
use Rattle.flow_term.specs.declared.term.Term.{Term}
use Rattle.flow_syntax.specs.declared.signature.Constructor.{Constructor}
use Rattle.flow_syntax.specs.declared.signature.TreeSort.{TreeSort}
use Rattle.flow_syntax.specs.declared.signature.TreeSort.TheVariants as sort_kinds
use Rattle.tree_fitting.specs.Fits.{MisfitsBelow}
use Rattle.tree_fitting.specs.Least.{IsLeastOf}
use Rattle.check_trees.specs.declared.refusal.TreeRefusal.{TreeRefusal}
use Rattle.check_trees.specs.Answers.{Refuses}

-- the sort of lists of one sort, and the sort of tuples with parts of these sorts
abbrev pub list_sort : TreeSort → TreeSort
list_sort item = sort_kinds.Items item

abbrev pub tuple_sort : List TreeSort → TreeSort
tuple_sort parts = sort_kinds.Tuple parts

-- Nothing was found where none is among these, or the least of them, as a way from its last step up.
abbrev pub IsFound : (List ℕ → Type 0) → Option (List ℕ) → Type 0
IsFound P None = (path : List ℕ) → ¬ P path
IsFound P (Some trail) = IsLeastOf P (reverse trail)

-- What was found below a term, where perhaps a sort is expected of it.
abbrev pub IsFoundAt : List Constructor → Option TreeSort → Term → Option (List ℕ) → Type 0
IsFoundAt cs None t found = found ≡ None
IsFoundAt cs (Some sort) t found = IsFound (MisfitsBelow cs sort t) found

-- What was found behind a position: nothing where none is among these, or the rest of the least of them.
abbrev pub IsFoundBehind : (List ℕ → Type 0) → List ℕ → Option (List ℕ) → Type 0
IsFoundBehind P position None = (path : List ℕ) → ¬ P path
IsFoundBehind P position (Some trail) = IsLeastOf P (position ++ reverse trail)

-- The answer is to accept where nothing was found, and else to refuse the path that was found.
abbrev pub Tells : List ℕ → Option (List ℕ) → Result (Unit {0}) TreeRefusal → Type 0
Tells position None result = result ≡ Ok tt
Tells position (Some trail) result = Refuses result (position ++ reverse trail)
