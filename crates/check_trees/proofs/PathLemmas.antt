-- Down a path through a tree that fits.
use Rattle.std.proofs.Common.{◌≡◌, ℕ, ◌+◌, ◌<◌, List, ◌∷◌, length, get_or, drop, drop-cons, add-one, Option, Some, None, refl, ap, ◌∙◌}
use Rattle.std.specs.Prelude.{slice_get, option_and_then}
use Rattle.flow_term.specs.declared.term.Term.{Term}
use Rattle.flow_term.specs.Trees.{children}
use Rattle.flow_syntax.specs.declared.signature.Constructor.{Constructor}
use Rattle.flow_syntax.specs.declared.signature.TreeSort.{TreeSort}
use Rattle.tree_fitting.specs.Fits.{FitsBelow, child_sort, expected_below}
use Rattle.tree_fitting.proofs.FitLemmas.{expected_child}

module _ (cs : List Constructor) (sort : TreeSort) (t : Term) (fit : FitsBelow cs sort t) where
  none_wanted : (rest : List ℕ) (at : Option Term) → option_and_then (λ (child : Term). option_and_then (λ (below : TreeSort). expected_below cs below child rest) None) at ≡ None
  none_wanted rest None = refl
  none_wanted rest (Some child) = refl

  -- nothing is expected where nothing is expected of a child on the way
  pub expected_none : (n : ℕ) (rest : List ℕ) → child_sort cs sort t n ≡ None → expected_below cs sort t (n ∷ rest) ≡ None
  expected_none n rest e = expected_child cs sort t fit n rest None (slice_get (children t) n) e refl ∙ none_wanted rest (slice_get (children t) n)

  module _ (steps : List ℕ) (i : ℕ) (within : i < length steps) where
    front : drop i steps ≡ get_or steps i 0 ∷ drop (i + 1) steps
    front = rw (add-one, drop-cons steps i 0) refl

    pub next_child : (want : Option TreeSort) (at : Option Term) → child_sort cs sort t (get_or steps i 0) ≡ want → slice_get (children t) (get_or steps i 0) ≡ at
        → expected_below cs sort t (drop i steps) ≡ option_and_then (λ child. option_and_then (λ below. expected_below cs below child (drop (i + 1) steps)) want) at
    next_child want at e f = ap (expected_below cs sort t) front ∙ expected_child cs sort t fit (get_or steps i 0) (drop (i + 1) steps) want at e f

    pub next_none : child_sort cs sort t (get_or steps i 0) ≡ None → expected_below cs sort t (drop i steps) ≡ None
    next_none e = ap (expected_below cs sort t) front ∙ (expected_none (get_or steps i 0) (drop (i + 1) steps) e)
