-- What was found below a new part in a tree that fits.
use Rattle.std.proofs.Common.{◌≡◌, ℕ, List, reverse, Option, Some, None, sym, subst, ◌∙◌}
use Rattle.std.proofs.lemmas.Option.{same_Some}
use Rattle.flow_term.specs.declared.term.Term.{Term}
use Rattle.flow_term.specs.Trees.{Put}
use Rattle.flow_syntax.specs.declared.signature.Constructor.{Constructor}
use Rattle.flow_syntax.specs.declared.signature.TreeSort.{TreeSort}
use Rattle.tree_fitting.specs.Fits.{FitsBelow, MisfitsBelow, expected_below}
use Rattle.tree_fitting.proofs.PutLemmas.{put_least, put_misfits}
use Rattle.check_trees.specs.inner.Searching.{IsFoundAt, IsFoundBehind}

-- what was found below the new part was found behind the path
module _ (cs : List Constructor) (path : List ℕ) (sort : TreeSort) (t new : Term) (fit : FitsBelow cs sort t) where
  put_none : (wanted : Option TreeSort) → expected_below cs sort t path ≡ wanted → IsFoundAt cs wanted new None → (q : List ℕ) → ¬ MisfitsBelow cs sort (Put t path new) q
  put_none None e found q m = let i = put_misfits cs path sort t new fit q m in let f : None ≡ Some i.wanted = sym e ∙ i.expected in cc
  put_none (Some wanted) e found q m =
      let i = put_misfits cs path sort t new fit q m in
      found i.rest (subst (λ (s : TreeSort). MisfitsBelow cs s new i.rest) (same_Some i.wanted wanted (sym i.expected ∙ e)) i.misfits)

  pub put_found : (wanted : Option TreeSort) → expected_below cs sort t path ≡ wanted → (found : Option (List ℕ)) → IsFoundAt cs wanted new found → IsFoundBehind (MisfitsBelow cs sort (Put t path new)) path found
  put_found wanted e None found = put_none wanted e found
  put_found None e (Some trail) found = cc
  put_found (Some wanted) e (Some trail) found = put_least cs path sort t new fit wanted e (reverse trail) found
