-- Misfits below a term are the term itself or those below its children.
use Rattle.std.proofs.Common.{◌≡◌, ℕ, Bool, true, false, cond, true≢false, List, [], ◌∷◌, Option, Some, None, refl, sym, ap, ◌∙◌}
use Rattle.std.specs.Prelude.{◌↔◌, slice_get, option_and_then}
use Rattle.std.proofs.lemmas.Option.{same_Some}
use Rattle.flow_term.specs.declared.term.Term.{Term}
use Rattle.flow_term.specs.Trees.{At, children}
use Rattle.flow_syntax.specs.declared.signature.Constructor.{Constructor}
use Rattle.flow_syntax.specs.declared.signature.TreeSort.{TreeSort}
use Rattle.tree_fitting.specs.Children.{MisfitsAmong, MisfitsInChild}
use Rattle.tree_fitting.specs.Fits.{MisfitsBelow, child_sort, expected_below, fits_form}
use Rattle.tree_fitting.specs.Laws.{MisfitsGoByChildren}

module _ (cs : List Constructor) (sort : TreeSort) (t : Term) where
  -- a term that doesn't fit by its own form is a misfit itself
  pub root_misfits : fits_form cs sort t ≡ false → MisfitsBelow cs sort t []
  root_misfits unfit = record { at = t; position = refl; wanted = sort; expected = refl; unfit = unfit }

  pub misfit_root : MisfitsBelow cs sort t [] → fits_form cs sort t ≡ false
  misfit_root m = ap (λ (s : TreeSort). fits_form cs s t) (same_Some sort m.wanted m.expected) ∙ ap (λ (u : Term). fits_form cs m.wanted u) (same_Some t m.at m.position) ∙ m.unfit

  -- a misfit below a child
  pub misfit_child : (n : ℕ) (rest : List ℕ) → MisfitsBelow cs sort t (n ∷ rest) → (fits_form cs sort t ≡ true) × MisfitsInChild cs (child_sort cs sort t) (children t) n rest
  misfit_child n rest m = go (fits_form cs sort t) refl (slice_get (children t) n) refl (child_sort cs sort t n) refl m.position m.expected
    where
      go : (b : Bool) → fits_form cs sort t ≡ b → (o : Option Term) → slice_get (children t) n ≡ o → (s : Option TreeSort) → child_sort cs sort t n ≡ s
          → option_and_then (λ child. At child rest) o ≡ Some m.at
          → cond b (option_and_then (λ child. option_and_then (λ below. expected_below cs below child rest) s) o) None ≡ Some m.wanted
          → (fits_form cs sort t ≡ true) × MisfitsInChild cs (child_sort cs sort t) (children t) n rest
      go false fits o is s want position expected = cc
      go true fits None is s want position expected = cc
      go true fits (Some child) is None want position expected = cc
      go true fits (Some child) is (Some below) want position expected =
          (fits, record { child = child; is = is; sort = below; wanted = want; inside = record { at = m.at; position = position; wanted = m.wanted; expected = expected; unfit = m.unfit } })

  pub child_misfits : (n : ℕ) (rest : List ℕ) → fits_form cs sort t ≡ true → MisfitsInChild cs (child_sort cs sort t) (children t) n rest → MisfitsBelow cs sort t (n ∷ rest)
  child_misfits n rest fits c = record {
    at = c.inside.at;
    position = ap (option_and_then (λ (child : Term). At child rest)) c.is ∙ c.inside.position;
    wanted = c.inside.wanted;
    expected =
        ap (λ (b : Bool). cond b (option_and_then (λ (child : Term). option_and_then (λ (below : TreeSort). expected_below cs below child rest) (child_sort cs sort t n)) (slice_get (children t) n)) None) fits
        ∙ ap (option_and_then (λ (child : Term). option_and_then (λ (below : TreeSort). expected_below cs below child rest) (child_sort cs sort t n))) c.is
        ∙ ap (option_and_then (λ (below : TreeSort). expected_below cs below c.child rest)) c.wanted
        ∙ c.inside.expected;
    unfit = c.inside.unfit;
  }

  -- where the term itself fits, its misfits are those below its children
  pub misfits_among : fits_form cs sort t ≡ true → (path : List ℕ) → MisfitsAmong cs (child_sort cs sort t) (children t) path ↔ MisfitsBelow cs sort t path
  misfits_among fits [] = (λ h. absurd h, λ m. true≢false (sym fits ∙ misfit_root m))
  misfits_among fits (n ∷ rest) = (child_misfits n rest fits, λ m. (misfit_child n rest m).1)

pub by_children : MisfitsGoByChildren
by_children cs sort t = record {
  itself = (misfit_root cs sort t, root_misfits cs sort t);
  below = λ n rest. (misfit_child cs sort t n rest, λ h. child_misfits cs sort t n rest h.0 h.1);
}
