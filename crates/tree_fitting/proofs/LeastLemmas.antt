-- The least misfit of a tree: there is one at most, and none where the tree fits.
use Rattle.std.proofs.Common.{◌≡◌, ℕ, List, Some, None}
use Rattle.tree_fitting.specs.Fits.{Misfits}
use Rattle.tree_fitting.specs.Laws.{FittingTreeHasNoMisfit, LeastMisfitIsUnique}
use Rattle.tree_fitting.specs.Least.{IsLeastOf}
use Rattle.tree_fitting.proofs.OrderLemmas.{same_path}

-- there is one least path at most
pub one_least : (P : List ℕ → Type 0) (p q : List ℕ) → IsLeastOf P p → IsLeastOf P q → p ≡ q
one_least P p q h k = same_path p q (k.none_before p h.among) (h.none_before q k.among)

pub one_misfit : LeastMisfitIsUnique
one_misfit None tree p q h k = absurd h
one_misfit (Some signature) tree p q h k = one_least (Misfits signature tree) p q h k

pub no_misfit : FittingTreeHasNoMisfit
no_misfit None tree path fits least = least
no_misfit (Some signature) tree path fits least = fits path least.among
