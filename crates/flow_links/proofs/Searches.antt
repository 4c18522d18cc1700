-- What a search over a relation finds, and that it finds all.
use Rattle.std.proofs.Common.{◌≡◌, ℕ, zero, suc, ◌+◌, ◌<◌, ◌≤◌, List, [], ◌∷◌, ◌++◌, length, Some, sym, ap, subst, ◌∙◌, inl, inr, arith}
use Rattle.std.specs.Prelude.{◌⊎◌, Contains, slice_get}
use Rattle.std.proofs.Math.Nat.{eq-or-lt_of_le}
use Rattle.std.proofs.lemmas.Option.{slice_get-get_or, same_Some}
use Rattle.flow_links.specs.inner.Gains.{Gains}
use Rattle.flow_syntax.proofs.LinkEnds.{contains_at}
use Rattle.flow_links.proofs.SetLemmas.{none_in_nil}
use Rattle.way_theory.specs.Ways.{Way, by_link, over}

get_shorter : {X : Type 0} (xs ys : List X) (i : ℕ) (m : X) → i < length xs → slice_get (xs ++ ys) i ≡ Some m → slice_get xs i ≡ Some m
get_shorter [] ys i m h at = absurd (omega arith)
get_shorter (x ∷ xs) ys zero m h at = at
get_shorter (x ∷ xs) ys (suc i) m h at = get_shorter xs ys i m (omega arith) at

-- What a search keeps, with the first of those found done.
pub record IsSearch {X : Type 0} (Inner : X → Type 0) (Arrow : X → X → Type 0) (from : X) (found : List X) (next : ℕ) : Type 0 where
  pub sound : (k : X) → Contains found k → Way Inner Arrow from k
  pub start : (k : X) → Arrow from k → Contains found k
  pub done : (i : ℕ) (m : X) → i < next → slice_get found i ≡ Some m → Inner m → (k : X) → Arrow m k → Contains found k

module _ {X : Type 0} (Inner : X → Type 0) (Arrow : X → X → Type 0) (from : X) where
  -- at first the successors are found
  pub search_begins : (none found : List X) → none ≡ [] → Gains none found (Arrow from) → IsSearch Inner Arrow from found 0
  search_begins none found nothing gains = record {
    sound = λ k h. elim ((gains.each k).0 h) [
      | inl before ↦ absurd (none_in_nil k (subst (λ (ks : List X). Contains ks k) nothing before))
      | inr arrow ↦ by_link k arrow
    ];
    start = λ k arrow. (gains.each k).1 (inr arrow);
    done = λ i m h. absurd (omega arith);
  }

  -- the next one is done
  pub search_goes_on : (found new : List X) (next : ℕ) (m : X) → IsSearch Inner Arrow from found next → next < length found → slice_get found next ≡ Some m
      → Gains found new (λ k. Inner m × Arrow m k) → ((more : List X) × (new ≡ found ++ more)) → IsSearch Inner Arrow from new (next + 1)
  search_goes_on found new next m kept within here gains order = record {
    sound = λ k h. elim ((gains.each k).0 h) [ inl before ↦ kept.sound k before | inr step ↦ over m k (kept.sound m (contains_at found next m here)) step.0 step.1 ];
    start = λ k arrow. (gains.each k).1 (inl (kept.start k arrow));
    done = λ i n below at inner k arrow. by i n (eq-or-lt_of_le (let f : i < next + 1 = below in omega arith)) (subst (λ (ks : List X). slice_get ks i ≡ Some n) order.1 at) inner k arrow;
  }
    where
      by : (i : ℕ) (n : X) → (i ≡ next) ⊎ (i < next) → slice_get (found ++ order.0) i ≡ Some n → Inner n → (k : X) → Arrow n k → Contains new k
      by i n (inr before) at inner k arrow = (gains.each k).1 (inl (kept.done i n before (get_shorter found order.0 i n (omega arith) at) inner k arrow))
      by i n (inl same) at inner k arrow =
          let now : slice_get found next ≡ Some n = get_shorter found order.0 next n within (subst (λ (j : ℕ). slice_get (found ++ order.0) j ≡ Some n) same at) in
          let one : n ≡ m = same_Some n m (sym now ∙ here) in
          (gains.each k).1 (inr (subst (λ (j : X). Inner j) one inner, subst (λ (j : X). Arrow j k) one arrow))

  -- with all done, all is found
  all_found : (found : List X) (next : ℕ) → IsSearch Inner Arrow from found next → length found ≤ next → (k : X) → Way Inner Arrow from k → Contains found k
  all_found found next kept end _ (by_link k arrow) = kept.start k arrow
  all_found found next kept end _ (over mid k leads inner arrow) =
      let there : Contains found mid = all_found found next kept end mid leads in
      kept.done there.0 mid (let f : there.0 < length found = there.1 in omega arith) (slice_get-get_or found there.0 mid there.1 ∙ ap Some there.2) inner k arrow

  pub search_ends : (found : List X) (next : ℕ) → IsSearch Inner Arrow from found next → length found ≤ next → Gains [] found (Way Inner Arrow from)
  search_ends found next kept end = record {
    each = λ k. (
      λ h. inr (kept.sound k h),
      λ h. elim h [ inl before ↦ absurd (none_in_nil k before) | inr leads ↦ all_found found next kept end k leads ],
    );
  }

  -- what is found is the target of an arrow
  pub last_arrow : (k : X) → Way Inner Arrow from k → (j : X) × Arrow j k
  last_arrow _ (by_link k arrow) = (from, arrow)
  last_arrow _ (over mid k leads inner arrow) = (mid, arrow)
