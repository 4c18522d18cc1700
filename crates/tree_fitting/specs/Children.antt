-- Misfits below the children of a term.
use Rattle.std.specs.Prelude.{◌≡◌, ℕ, List, [], ◌∷◌, Option, Some, slice_get}
use Rattle.flow_term.specs.declared.term.Term.{Term}
use Rattle.flow_syntax.specs.declared.signature.Constructor.{Constructor}
use Rattle.flow_syntax.specs.declared.signature.TreeSort.{TreeSort}
use Rattle.tree_fitting.specs.Fits.{MisfitsBelow}

-- Below the child with this number, of which a sort is expected, the rest of a path leads to a misfit.
pub record MisfitsInChild (cs : List Constructor) (expected : ℕ → Option TreeSort) (ts : List Term) (n : ℕ) (rest : List ℕ) : Type 0 where
  pub child : Term
  pub is : slice_get ts n ≡ Some child
  pub sort : TreeSort
  pub wanted : expected n ≡ Some sort
  pub inside : MisfitsBelow cs sort child rest

-- A path from a term through its children, of which these sorts are expected, leads to a misfit.
abbrev pub MisfitsAmong : List Constructor → (ℕ → Option TreeSort) → List Term → List ℕ → Type 0
MisfitsAmong cs expected ts [] = ⊥
MisfitsAmong cs expected ts (n ∷ rest) = MisfitsInChild cs expected ts n rest
