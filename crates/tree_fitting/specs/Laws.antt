-- What the definitions say of one another, each law as one sentence.
use Rattle.std.specs.Prelude.{◌≡◌, ◌↔◌, ◌⊎◌, ℕ, true, false, List, [], ◌∷◌, Option, Some}
use Rattle.flow_term.specs.declared.term.Term.{Term}
use Rattle.flow_term.specs.Trees.{Put, children}
use Rattle.flow_syntax.specs.declared.signature.Constructor.{Constructor}
use Rattle.flow_syntax.specs.declared.signature.Signature.{Signature}
use Rattle.flow_syntax.specs.declared.signature.TreeSort.{TreeSort}
use Rattle.tree_fitting.specs.Children.{MisfitsInChild}
use Rattle.tree_fitting.specs.Fits.{Misfits, MisfitsBelow, TreeFits, child_sort, fits_form, named_sort}
use Rattle.tree_fitting.specs.Least.{IsLeastMisfit}
use Rattle.tree_fitting.specs.Replaced.{MisfitsInNew}

-- two least misfits of a tree are the same
abbrev pub LeastMisfitIsUnique : Type 0
LeastMisfitIsUnique = (signature : Option Signature) (tree : Term) (p q : List ℕ) → IsLeastMisfit signature tree p → IsLeastMisfit signature tree q → p ≡ q

-- a tree that fits has no least misfit
abbrev pub FittingTreeHasNoMisfit : Type 0
FittingTreeHasNoMisfit = (signature : Option Signature) (tree : Term) (path : List ℕ) → TreeFits signature tree → ¬ IsLeastMisfit signature tree path

-- a tree fits, or it has a least misfit
abbrev pub TreeFitsOrMisfits : Type 0
TreeFitsOrMisfits = (signature : Option Signature) (tree : Term) → TreeFits signature tree ⊎ ((path : List ℕ) × IsLeastMisfit signature tree path)

-- A term misfits itself exactly where its own form doesn't fit. Where it does, and only there, the misfits below it are those of its children.
pub record GoesByChildren (cs : List Constructor) (sort : TreeSort) (t : Term) : Type 0 where
  pub itself : MisfitsBelow cs sort t [] ↔ (fits_form cs sort t ≡ false)
  pub below : (n : ℕ) (rest : List ℕ) → MisfitsBelow cs sort t (n ∷ rest) ↔ ((fits_form cs sort t ≡ true) × MisfitsInChild cs (child_sort cs sort t) (children t) n rest)

abbrev pub MisfitsGoByChildren : Type 0
MisfitsGoByChildren = (cs : List Constructor) (sort : TreeSort) (t : Term) → GoesByChildren cs sort t

-- once a part of a tree that fits is replaced, the misfits are those of the new part, behind the path
abbrev pub ReplacementMisfitsInNewPart : Type 0
ReplacementMisfitsInNewPart = (signature : Signature) (tree new : Term) (path : List ℕ) → TreeFits (Some signature) tree
    → (q : List ℕ) → Misfits signature (Put tree path new) q ↔ MisfitsInNew signature.constructors (named_sort signature.start) tree new path q
