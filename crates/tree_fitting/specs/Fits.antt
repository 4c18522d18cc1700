-- Which sort is expected at a position of a tree, and which positions don't fit.
use Rattle.std.specs.Prelude.{◌≡◌, ℕ, Bool, true, false, ◌&&◌, ◌==◌, List, [], ◌∷◌, length, Option, Some, None, is_some, find, slice_get, bytes_eq, option_and_then, if◌then◌else◌}
use Rattle.flow_term.specs.declared.term.Term.{Term}
use Rattle.flow_term.specs.declared.term.Kind.TheOpen.{Kind-F}
use Rattle.flow_term.specs.Annotations.{TermLayer, term_layer}
use Rattle.flow_term.specs.Trees.{At, children}
use Rattle.flow_syntax.specs.declared.signature.Constructor.{Constructor}
use Rattle.flow_syntax.specs.declared.signature.Signature.{Signature}
use Rattle.flow_syntax.specs.declared.signature.TreeSort.{TreeSort, TreeSort-F, out-TreeSort}
use Rattle.flow_syntax.specs.declared.signature.TreeSort.TheVariants as sort_kinds
use Rattle.flow_syntax.specs.declared.spec.Named.{Named}

-- one layer of a sort
abbrev pub SortLayer : Type 0
SortLayer = TreeSort-F TreeSort

-- the constructor with this name and this number of arguments: the first declared. An accepted signature has no second one
abbrev pub constructor_of : List Constructor → List ℕ → ℕ → Option Constructor
constructor_of cs name count = find (λ c. bytes_eq c.name.text name && (length c.args == count)) cs

-- the sorts of the arguments, where a constructor with this name and this number of arguments makes terms of the sort
abbrev pub argument_sorts : List Constructor → List ℕ → List ℕ → ℕ → Option (List TreeSort)
argument_sorts cs sort name count = option_and_then (λ c. if bytes_eq c.result.text sort then Some c.args else None) (constructor_of cs name count)

-- whether a layer of a term fits a layer of a sort
abbrev pub form_fits : List Constructor → SortLayer → TermLayer → Bool
form_fits cs (TreeSort-F.Sort sort) (Kind-F.Apply name args) = is_some (argument_sorts cs sort.text name (length args))
form_fits cs TreeSort-F.Str (Kind-F.Str text) = true
form_fits cs TreeSort-F.Int (Kind-F.Int n) = true
form_fits cs TreeSort-F.Any layer = true
form_fits cs (TreeSort-F.Items sort) (Kind-F.Items items) = true
form_fits cs (TreeSort-F.Tuple sorts) (Kind-F.Tuple parts) = length sorts == length parts
form_fits cs sort layer = false

-- whether a term fits a sort by its own form: its name and its number of arguments, its kind, its length
abbrev pub fits_form : List Constructor → TreeSort → Term → Bool
fits_form cs sort t = form_fits cs (out-TreeSort sort) (term_layer t)

-- the sort that one layer of a sort expects of the part with this number
abbrev pub part_sort : List Constructor → SortLayer → TermLayer → ℕ → Option TreeSort
part_sort cs (TreeSort-F.Sort sort) (Kind-F.Apply name args) n = option_and_then (λ sorts. slice_get sorts n) (argument_sorts cs sort.text name (length args))
part_sort cs (TreeSort-F.Items sort) layer n = Some sort
part_sort cs (TreeSort-F.Tuple sorts) layer n = slice_get sorts n
part_sort cs sort layer n = None

-- the sort that is expected of the child with this number, where the term fits by its own form
abbrev pub child_sort : List Constructor → TreeSort → Term → ℕ → Option TreeSort
child_sort cs sort t n = part_sort cs (out-TreeSort sort) (term_layer t) n

-- the sort that is expected at a path below a term of which a sort is expected: none below a term that doesn't fit
abbrev pub expected_below : List Constructor → TreeSort → Term → List ℕ → Option TreeSort
expected_below cs sort t [] = Some sort
expected_below cs sort t (n ∷ path) = if fits_form cs sort t then
    option_and_then (λ child. option_and_then (λ below. expected_below cs below child path) (child_sort cs sort t n)) (slice_get (children t) n) else None

-- A position at or below a term of which a sort is expected: a sort is expected there too, and the form there doesn't fit it.
pub record MisfitsBelow (cs : List Constructor) (sort : TreeSort) (t : Term) (path : List ℕ) : Type 0 where
  pub at : Term
  pub position : At t path ≡ Some at
  pub wanted : TreeSort
  pub expected : expected_below cs sort t path ≡ Some wanted
  pub unfit : fits_form cs wanted at ≡ false

-- No position at or below a term of which a sort is expected misfits.
abbrev pub FitsBelow : List Constructor → TreeSort → Term → Type 0
FitsBelow cs sort t = (path : List ℕ) → ¬ MisfitsBelow cs sort t path

-- the sort with this name
abbrev pub named_sort : Named → TreeSort
named_sort name = sort_kinds.Sort name

-- the sort that is expected at a position of a tree: the start sort at the root
abbrev pub expected_at : Signature → Term → List ℕ → Option TreeSort
expected_at signature tree path = expected_below signature.constructors (named_sort signature.start) tree path

-- A position of a tree doesn't fit the sort that the signature expects there.
abbrev pub Misfits : Signature → Term → List ℕ → Type 0
Misfits signature tree path = MisfitsBelow signature.constructors (named_sort signature.start) tree path

-- A tree fits where no position misfits; without a signature each tree does.
abbrev pub TreeFits : Option Signature → Term → Type 0
TreeFits None tree = Unit {0}
TreeFits (Some signature) tree = (path : List ℕ) → ¬ Misfits signature tree path
