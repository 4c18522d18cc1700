-- What a search over numbers finds is few.
use Rattle.std.proofs.Common.{◌≡◌, ℕ, ◌<◌, ◌≤◌, ◌==◌, List, [], ◌∷◌, ◌++◌, length, sym, subst, inl, inr}
use Rattle.std.specs.Prelude.{Contains}
use Rattle.std.specs.List.{IsDistinct}
use Rattle.std.proofs.lemmas.Bool.{eqb-true}
use Rattle.std.proofs.lemmas.List.Elements.{Contains-push, Contains-push_cases, Contains-append_left}
use Rattle.std.proofs.lemmas.Map.Steps.{length-le_from_distinct_below}
use Rattle.indexmap.proofs.CallerLemmas.{Contains-list_any}
use Rattle.flow_term.specs.declared.graph.Point.{Point}
use Rattle.flow_syntax.proofs.LinkEnds.{contains_at}
use Rattle.flow_links.specs.inner.Gains.{Gains}
use Rattle.flow_links.specs.inner.Reach.{IsArrow, IsInnerAt, Leads}
use Rattle.flow_links.proofs.Searches.{IsSearch, last_arrow}
use Rattle.flow_links.proofs.SetLemmas.{Gains-same, Gains-then}

-- one number more
pub gains_more : (old mid new numbers : List ℕ) (n : ℕ) → Gains old mid (Contains numbers) → Gains mid new (λ x. x ≡ n) → Gains old new (Contains (numbers ++ n ∷ []))
gains_more old mid new numbers n p q = Gains-same (Gains-then p q) (λ x. (
  λ h. elim h [ inl before ↦ Contains-append_left numbers (n ∷ []) x before | inr same ↦ subst (λ (k : ℕ). Contains (numbers ++ n ∷ []) k) (sym same) (Contains-push numbers n) ],
  λ h. elim (Contains-push_cases numbers n x h) [ inl before ↦ inl before | inr same ↦ inr (sym same) ],
))

module _ (points : List Point) (rows : List (List ℕ)) (from : ℕ) (within : (j k : ℕ) → IsArrow rows j k → k < length points) where
  pub found_within : (k : ℕ) → Leads points rows from k → k < length points
  found_within k leads = let last = last_arrow (IsInnerAt points) (IsArrow rows) from k leads in within last.0 k last.1

  -- no more numbers are found than there are
  pub few_found : (found : List ℕ) (next : ℕ) → IsSearch (IsInnerAt points) (IsArrow rows) from found next → IsDistinct ◌==◌ found → length found ≤ length points
  few_found found next kept distinct = length-le_from_distinct_below found (length points) distinct (λ k h. found_within k (kept.sound k (Contains-list_any ◌==◌ eqb-true found k h)))
