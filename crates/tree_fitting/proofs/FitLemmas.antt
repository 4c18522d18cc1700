-- Terms that fit with all below them.
use Rattle.std.proofs.Common.{◌≡◌, ℕ, Bool, true, false, cond, List, [], ◌∷◌, Option, Some, None, refl, ap, ◌∙◌}
use Rattle.std.specs.Prelude.{slice_get, option_and_then}
use Rattle.flow_term.specs.declared.term.Term.{Term}
use Rattle.flow_term.specs.Trees.{children}
use Rattle.flow_syntax.specs.declared.signature.Constructor.{Constructor}
use Rattle.flow_syntax.specs.declared.signature.TreeSort.{TreeSort}
use Rattle.tree_fitting.specs.Fits.{FitsBelow, child_sort, expected_below, fits_form}
use Rattle.tree_fitting.proofs.StepLemmas.{child_misfits, root_misfits}

module _ (cs : List Constructor) (sort : TreeSort) (t : Term) (fit : FitsBelow cs sort t) where
  pub fits_itself : fits_form cs sort t ≡ true
  fits_itself = go (fits_form cs sort t) refl
    where
      go : (b : Bool) → fits_form cs sort t ≡ b → b ≡ true
      go true e = refl
      go false e = absurd (fit [] (root_misfits cs sort t e))

  pub fits_child : (n : ℕ) (child : Term) (below : TreeSort) → slice_get (children t) n ≡ Some child → child_sort cs sort t n ≡ Some below → FitsBelow cs below child
  fits_child n child below is want path m = fit (n ∷ path) (child_misfits cs sort t n path fits_itself (record { child = child; is = is; sort = below; wanted = want; inside = m }))

  pub expected_child : (n : ℕ) (rest : List ℕ) (want : Option TreeSort) (at : Option Term) → child_sort cs sort t n ≡ want → slice_get (children t) n ≡ at
      → expected_below cs sort t (n ∷ rest) ≡ option_and_then (λ child. option_and_then (λ below. expected_below cs below child rest) want) at
  expected_child n rest want at e f =
      ap (λ (b : Bool). cond b (option_and_then (λ (child : Term). option_and_then (λ (below : TreeSort). expected_below cs below child rest) (child_sort cs sort t n)) (slice_get (children t) n)) None) fits_itself
      ∙ ap (λ (s : Option TreeSort). option_and_then (λ (child : Term). option_and_then (λ (below : TreeSort). expected_below cs below child rest) s) (slice_get (children t) n)) e
      ∙ ap (option_and_then (λ (child : Term). option_and_then (λ (below : TreeSort). expected_below cs below child rest) want)) f
