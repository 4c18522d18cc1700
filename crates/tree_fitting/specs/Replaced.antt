-- Misfits of a new part that stands at a path of a tree.
use Rattle.std.specs.Prelude.{◌≡◌, ℕ, List, ◌++◌, Some}
use Rattle.flow_term.specs.declared.term.Term.{Term}
use Rattle.flow_syntax.specs.declared.signature.Constructor.{Constructor}
use Rattle.flow_syntax.specs.declared.signature.TreeSort.{TreeSort}
use Rattle.tree_fitting.specs.Fits.{MisfitsBelow, expected_below}

-- A path goes through the one at which the new part stands, and from there to a misfit of the new part, of which the sort is expected that is
-- expected at that path of the tree.
pub record MisfitsInNew (cs : List Constructor) (sort : TreeSort) (t new : Term) (path q : List ℕ) : Type 0 where
  pub rest : List ℕ
  pub is : q ≡ path ++ rest
  pub wanted : TreeSort
  pub expected : expected_below cs sort t path ≡ Some wanted
  pub misfits : MisfitsBelow cs wanted new rest
