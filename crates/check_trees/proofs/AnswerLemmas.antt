-- What an answer says, by what was found.
use Rattle.std.proofs.Common.{◌≡◌, List, [], ℕ, ◌++◌, Option, Some, None, Result, Ok, Err, reverse, sym, subst}
use Rattle.flow_term.specs.declared.term.Term.{Term}
use Rattle.flow_syntax.specs.declared.signature.Signature.{Signature}
use Rattle.tree_fitting.specs.Fits.{Misfits, TreeFits}
use Rattle.tree_fitting.specs.Least.{IsLeastMisfit, IsLeastOf}
use Rattle.tree_fitting.proofs.LeastLemmas.{one_least}
use Rattle.check_trees.specs.declared.refusal.TreeRefusal.{TreeRefusal}
use Rattle.check_trees.specs.declared.refusal.TreeRefusal.TheVariants.{IllSorted, NoMemory}
use Rattle.check_trees.specs.Answers.{Accepts, IsRight, Refuses}
use Rattle.check_trees.specs.inner.Searching.{IsFound, IsFoundBehind, Tells}

-- what was found below the root
pub behind_root : (P : List ℕ → Type 0) (found : Option (List ℕ)) → IsFound P found → IsFoundBehind P [] found
behind_root P None h = h
behind_root P (Some trail) h = h

module _ (signature : Signature) (tree : Term) (position : List ℕ) where
  right_refused : (path : List ℕ) (result : Result (Unit {0}) TreeRefusal) → IsLeastOf (Misfits signature tree) path → Refuses result path → IsRight (Some signature) tree result
  right_refused path (Ok done) least h = absurd h
  right_refused path (Err (IllSorted refused)) least h = subst (IsLeastOf (Misfits signature tree)) (sym h) least
  right_refused path (Err NoMemory) least h = tt

  same_refused : (p q : List ℕ) (result : Result (Unit {0}) TreeRefusal) → p ≡ q → Refuses result p → Refuses result q
  same_refused p q result e = subst (Refuses result) e

  pub right_answer : (found : Option (List ℕ)) (result : Result (Unit {0}) TreeRefusal) → IsFoundBehind (Misfits signature tree) position found → Tells position found result
      → IsRight (Some signature) tree result
  right_answer None result h told = subst (IsRight (Some signature) tree) (sym told) h
  right_answer (Some trail) result h told = right_refused (position ++ reverse trail) result h told

  pub accepting_answer : (found : Option (List ℕ)) (result : Result (Unit {0}) TreeRefusal) → IsFoundBehind (Misfits signature tree) position found → Tells position found result
      → TreeFits (Some signature) tree → Accepts result
  accepting_answer None result h told fits = subst Accepts (sym told) tt
  accepting_answer (Some trail) result h told fits = absurd (fits (position ++ reverse trail) h.among)

  pub refusing_answer : (found : Option (List ℕ)) (result : Result (Unit {0}) TreeRefusal) → IsFoundBehind (Misfits signature tree) position found → Tells position found result
      → (path : List ℕ) → IsLeastMisfit (Some signature) tree path → Refuses result path
  refusing_answer None result h told path least = absurd (h path least.among)
  refusing_answer (Some trail) result h told path least = same_refused (position ++ reverse trail) path result (one_least (Misfits signature tree) (position ++ reverse trail) path h least) told
