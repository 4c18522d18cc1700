-- What a search for the least misfit finds.
use Rattle.std.proofs.Common.{◌≡◌, ℕ, ◌≤◌, true, false, List, [], ◌∷◌, ◌++◌, length, reverse, Option, Some, None, sym, ap, subst, ◌∙◌}
use Rattle.std.specs.Prelude.{◌↔◌, slice_get}
use Rattle.std.proofs.lemmas.List.{reverse-append}
use Rattle.flow_term.specs.declared.term.Term.{Term}
use Rattle.flow_term.specs.Trees.{children}
use Rattle.flow_syntax.specs.declared.signature.Constructor.{Constructor}
use Rattle.flow_syntax.specs.declared.signature.TreeSort.{TreeSort}
use Rattle.tree_fitting.specs.Children.{MisfitsAmong}
use Rattle.tree_fitting.specs.Fits.{MisfitsBelow, child_sort, fits_form}
use Rattle.tree_fitting.specs.Least.{IsLeastOf}
use Rattle.tree_fitting.proofs.ChildLemmas.{NoneBefore, least_child, least_same, none_among}
use Rattle.tree_fitting.proofs.OrderLemmas.{none_before_root}
use Rattle.tree_fitting.proofs.StepLemmas.{misfits_among, root_misfits}
use Rattle.check_trees.specs.inner.Searching.{IsFound}

-- what was found among these was found among the same
pub found_same : {P Q : List ℕ → Type 0} (found : Option (List ℕ)) → ((path : List ℕ) → P path ↔ Q path) → IsFound P found → IsFound Q found
found_same None same none = λ path q. none path ((same path).1 q)
found_same (Some trail) same least = least_same (reverse trail) same least

module _ (cs : List Constructor) (sort : TreeSort) (t : Term) where
  -- a term that doesn't fit is the least misfit
  pub found_here : fits_form cs sort t ≡ false → IsFound (MisfitsBelow cs sort t) (Some [])
  found_here unfit = record { among = root_misfits cs sort t unfit; none_before = λ other m. none_before_root other }

  module _ (expected : ℕ → Option TreeSort) (ts : List Term) (fits : fits_form cs sort t ≡ true) (same : (n : ℕ) → expected n ≡ child_sort cs sort t n) (are : ts ≡ children t) where
    as_children : (path : List ℕ) → MisfitsAmong cs expected ts path ↔ MisfitsAmong cs (child_sort cs sort t) (children t) path
    as_children [] = (λ h. h, λ h. h)
    as_children (n ∷ rest) = (
      λ c. record { child = c.child; is = ap (λ (us : List Term). slice_get us n) (sym are) ∙ c.is; sort = c.sort; wanted = sym (same n) ∙ c.wanted; inside = c.inside },
      λ c. record { child = c.child; is = ap (λ (us : List Term). slice_get us n) are ∙ c.is; sort = c.sort; wanted = same n ∙ c.wanted; inside = c.inside },
    )

    -- what was found among the children of a term that fits was found below the term
    pub found_inside : (found : Option (List ℕ)) → IsFound (MisfitsAmong cs expected ts) found → IsFound (MisfitsBelow cs sort t) found
    found_inside found h = found_same found (misfits_among cs sort t fits) (found_same found as_children h)

  -- nothing is found where nothing is expected of the children
  pub found_nothing : fits_form cs sort t ≡ true → ((n : ℕ) → child_sort cs sort t n ≡ None) → IsFound (MisfitsBelow cs sort t) None
  found_nothing fits none path m = among path ((misfits_among cs sort t fits path).1 m)
    where
      among : (path : List ℕ) → ¬ MisfitsAmong cs (child_sort cs sort t) (children t) path
      among [] h = h
      among (n ∷ rest) c = let e : None ≡ Some c.sort = sym (none n) ∙ c.wanted in cc

module _ (cs : List Constructor) (expected : ℕ → Option TreeSort) (ts : List Term) (n : ℕ) where
  pub found_in_child : (child : Term) (sort : TreeSort) → slice_get ts n ≡ Some child → expected n ≡ Some sort → (trail longer : List ℕ) → longer ≡ trail ++ n ∷ [] → NoneBefore cs expected ts n
      → IsFound (MisfitsBelow cs sort child) (Some trail) → IsFound (MisfitsAmong cs expected ts) (Some longer)
  found_in_child child sort is wanted trail longer e before h =
      subst (IsLeastOf (MisfitsAmong cs expected ts)) (sym (ap reverse e ∙ reverse-append trail (n ∷ []))) (least_child cs expected ts n child sort is wanted (reverse trail) before h)

  -- nothing is found once all children were searched
  pub found_none : length ts ≤ n → NoneBefore cs expected ts n → IsFound (MisfitsAmong cs expected ts) None
  found_none all before path m = none_among cs expected ts n all before path m
