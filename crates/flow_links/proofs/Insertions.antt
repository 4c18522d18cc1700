-- What a set gains by an insertion.
use Rattle.std.proofs.Common.{◌≡◌, Bool, true, false, List, [], ◌∷◌, ◌++◌, refl, sym, ap, subst, ◌∙◌, inl, inr, append-nil, append_assoc}
use Rattle.std.specs.Prelude.{Contains}
use Rattle.std.specs.List.{list_any}
use Rattle.std.proofs.lemmas.List.Elements.{Contains-push, Contains-push_cases, Contains-append_left}
use Rattle.indexmap.specs.IndexSet.{insert_key}
use Rattle.indexmap.proofs.CallerLemmas.{Contains-list_any}
use Rattle.flow_links.specs.inner.Gains.{Gains}

module _ {K : Type 0} (eq : K → K → Bool) (exact : (a b : K) → eq a b ≡ true → a ≡ b) (ks : List K) (n : K) where
  pub gains_insert : Gains ks (insert_key eq ks n) (λ x. x ≡ n)
  gains_insert = by (list_any (λ k. eq n k) ks) refl
    where
      by : (b : Bool) → list_any (λ k. eq n k) ks ≡ b → Gains ks (insert_key eq ks n) (λ x. x ≡ n)
      by true e = rw e (record {
        each = λ x. (
          λ h. inl h,
          λ h. elim h [ inl before ↦ before | inr same ↦ subst (λ (k : K). Contains ks k) (sym same) (Contains-list_any eq exact ks n e) ],
        );
      })
      by false e = rw e (record {
        each = λ x. (
          λ h. elim (Contains-push_cases ks n x h) [ inl before ↦ inl before | inr same ↦ inr (sym same) ],
          λ h. elim h [ inl before ↦ Contains-append_left ks (n ∷ []) x before | inr same ↦ subst (λ (k : K). Contains (ks ++ n ∷ []) k) (sym same) (Contains-push ks n) ],
        );
      })

  pub longer_insert : (more : List K) × (insert_key eq ks n ≡ ks ++ more)
  longer_insert = by (list_any (λ k. eq n k) ks) refl
    where
      by : (b : Bool) → list_any (λ k. eq n k) ks ≡ b → (more : List K) × (insert_key eq ks n ≡ ks ++ more)
      by true e = ([], rw e (sym (append-nil ks)))
      by false e = (n ∷ [], rw e refl)

pub longer_still : {K : Type 0} (ks ls ms : List K) → ((more : List K) × (ls ≡ ks ++ more)) → ((more : List K) × (ms ≡ ls ++ more)) → (more : List K) × (ms ≡ ks ++ more)
longer_still {K} ks ls ms one two = (one.0 ++ two.0, two.1 ∙ ap (λ (xs : List K). xs ++ two.0) one.1 ∙ append_assoc ks one.0 two.0)
