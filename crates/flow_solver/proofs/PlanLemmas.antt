-- What is made ready for an edit.
use Rattle.std.proofs.Common.{◌≡◌, ℕ, Bool, true, false, not, ◌||◌, ◌&&◌, List, [], ◌∷◌, ◌++◌, length, take, map, ◌+◌, ◌<◌, refl, sym, ap, ◌∙◌, inl, inr}
use Rattle.std.specs.Prelude.{nat_eq, filter, get_or}
use Rattle.std.proofs.lemmas.Bool.{and_from, and_parts, not-true, not_from_false, or_cases, or_left, or_right}
use Rattle.std.proofs.lemmas.List.{map-append}
use Rattle.list_theory.specs.Lists.{has, push_all}
use Rattle.list_theory.proofs.ListLemmas.{has-append, has-filter, has-filter_from, has-take_next}
use Rattle.list_theory.proofs.NumberLemmas.{numbers_exact}
use Rattle.constraint_theory.specs.Systems.{ConstraintSystem, IsKey, IsUnknown, aiming, numbers}
use Rattle.constraint_theory.specs.Edits.{Change, IsEdit, renewed, stays, unknown_stays}
use Rattle.flow_solver.specs.Plans.{AreBottoms}
use Rattle.flow_solver.proofs.LoopLemmas.{all_filtered, bool_same, has_push_all_is, same_sym}

firsts : {V : Type 0} (f : ℕ → V) (us : List ℕ) → map (λ (pair : ℕ × V). pair.0) (map (λ u. (u, f u)) us) ≡ us
firsts f [] = refl
firsts f (u ∷ us) = ap (λ ws. u ∷ ws) (firsts f us)

module _ {V : Type 0} (s t : ConstraintSystem ℕ ℕ V) (e : Change ℕ ℕ V) (edit : IsEdit numbers s t e) (us : List ℕ) (used : (u : ℕ) → has nat_eq us u ≡ true → IsUnknown numbers s u) (none gone added : List ℕ) (empty : none ≡ []) (are_gone : (u : ℕ) → has nat_eq gone u ≡ has nat_eq e.gone_unknowns u) (are_added : added ≡ e.added_unknowns) where
  -- an unknown that isn't gone is in use after the edit
  stays_from : (u : ℕ) → has nat_eq us u ≡ true → has nat_eq gone u ≡ false → unknown_stays numbers s t e u ≡ true
  stays_from u h n = and_from (has nat_eq s.unknowns u) (not (has nat_eq e.gone_unknowns u)) (used u h) (not_from_false (has nat_eq e.gone_unknowns u) (sym (are_gone u) ∙ n))

  pub used_again : (u : ℕ) → has nat_eq us u ≡ true → has nat_eq gone u ≡ false → IsUnknown numbers t u
  used_again u h n = edit.lists.unknowns u ∙ or_left (unknown_stays numbers s t e u) (has nat_eq e.added_unknowns u) (stays_from u h n)

  abbrev anew : List ℕ
  anew = filter (λ u. not (has nat_eq none u)) added ++ filter (λ u. not (has nat_eq gone u)) us

  first_part : filter (λ u. not (has nat_eq none u)) added ≡ e.added_unknowns
  first_part = ap (λ ns. filter (λ u. not (has nat_eq ns u)) added) empty ∙ all_filtered added ∙ are_added

  exactly_anew : (u : ℕ) → has nat_eq anew u ≡ ((unknown_stays numbers s t e u && has nat_eq us u) || has nat_eq e.added_unknowns u)
  exactly_anew u = bool_same (has nat_eq anew u) ((unknown_stays numbers s t e u && has nat_eq us u) || has nat_eq e.added_unknowns u)
      (λ h. elim (or_cases (has nat_eq (filter (λ w. not (has nat_eq none w)) added) u) (has nat_eq (filter (λ w. not (has nat_eq gone w)) us) u) (sym (has-append nat_eq numbers_exact (filter (λ w. not (has nat_eq none w)) added) (filter (λ w. not (has nat_eq gone w)) us) u) ∙ h)) [
        | inl a ↦ or_right (unknown_stays numbers s t e u && has nat_eq us u) (has nat_eq e.added_unknowns u) (ap (λ ws. has nat_eq ws u) (sym first_part) ∙ a)
        | inr b ↦
            let p : (has nat_eq us u ≡ true) × (not (has nat_eq gone u) ≡ true) = has-filter nat_eq numbers_exact (λ w. not (has nat_eq gone w)) us u b in
            or_left (unknown_stays numbers s t e u && has nat_eq us u) (has nat_eq e.added_unknowns u) (and_from (unknown_stays numbers s t e u) (has nat_eq us u) (stays_from u p.0 (not-true (has nat_eq gone u) p.1)) p.0)
      ])
      (λ h. has-append nat_eq numbers_exact (filter (λ w. not (has nat_eq none w)) added) (filter (λ w. not (has nat_eq gone w)) us) u ∙ elim (or_cases (unknown_stays numbers s t e u && has nat_eq us u) (has nat_eq e.added_unknowns u) h) [
        | inl b ↦
            let p : (unknown_stays numbers s t e u ≡ true) × (has nat_eq us u ≡ true) = and_parts (unknown_stays numbers s t e u) (has nat_eq us u) b in
            let left : not (has nat_eq gone u) ≡ true = ap not (are_gone u) ∙ (and_parts (has nat_eq s.unknowns u) (not (has nat_eq e.gone_unknowns u)) p.0).1 in
            or_right (has nat_eq (filter (λ w. not (has nat_eq none w)) added) u) (has nat_eq (filter (λ w. not (has nat_eq gone w)) us) u) (has-filter_from nat_eq numbers_exact (λ w. not (has nat_eq gone w)) us u p.1 left)
        | inr a ↦ or_left (has nat_eq (filter (λ w. not (has nat_eq none w)) added) u) (has nat_eq (filter (λ w. not (has nat_eq gone w)) us) u) (ap (λ ws. has nat_eq ws u) first_part ∙ a)
      ])

  pub bottoms_are : (pairs : List (ℕ × V)) → pairs ≡ map (λ u. (u, t.bottom u)) (filter (λ u. not (has nat_eq none u)) added) ++ map (λ u. (u, t.bottom u)) (filter (λ u. not (has nat_eq gone u)) us) → AreBottoms s t e (has nat_eq us) pairs
  bottoms_are pairs is =
      let pair : ℕ → ℕ × V = λ u. (u, t.bottom u) in
      let all : pairs ≡ map (λ u. (u, t.bottom u)) anew = is ∙ sym (map-append pair (filter (λ u. not (has nat_eq none u)) added) (filter (λ u. not (has nat_eq gone u)) us)) in
      let names : map (λ (p : ℕ × V). p.0) pairs ≡ anew = ap (map (λ (p : ℕ × V). p.0)) all ∙ firsts t.bottom anew in
      record {
        exactly = λ u. ap (λ ws. has nat_eq ws u) names ∙ exactly_anew u;
        each = all ∙ ap (map pair) (sym names);
      }

has_filter_is : (p : ℕ → Bool) (xs : List ℕ) (x : ℕ) → has nat_eq (filter p xs) x ≡ (has nat_eq xs x && p x)
has_filter_is p xs x = bool_same (has nat_eq (filter p xs) x) (has nat_eq xs x && p x)
    (λ h. let q : (has nat_eq xs x ≡ true) × (p x ≡ true) = has-filter nat_eq numbers_exact p xs x h in and_from (has nat_eq xs x) (p x) q.0 q.1)
    (λ h. let q : (has nat_eq xs x ≡ true) × (p x ≡ true) = and_parts (has nat_eq xs x) (p x) h in has-filter_from nat_eq numbers_exact p xs x q.0 q.1)

regroup : (a k n t e : Bool) → ((a || ((k && n) && t)) || ((k && e) && n)) ≡ (a || ((k && n) && (t || e)))
regroup true k n t e = refl
regroup false false n t e = refl
regroup false true false t true = refl
regroup false true false t false = refl
regroup false true true true e = refl
regroup false true true false true = refl
regroup false true true false false = refl

-- Keys that aim at the first unknowns and aren't gone, and then those that aim at the next.
pub aiming_next : {V : Type 0} (s : ConstraintSystem ℕ ℕ V) (before set set' gone us targeting : List ℕ) (i : ℕ) → i < length us → targeting ≡ aiming numbers s (get_or us i 0) → set' ≡ push_all nat_eq set (filter (λ k. not (has nat_eq gone k)) targeting)
    → ((k : ℕ) → has nat_eq set k ≡ (has nat_eq before k || ((has nat_eq s.keys k && not (has nat_eq gone k)) && has nat_eq (take i us) (s.target k))))
    → (k : ℕ) → has nat_eq set' k ≡ (has nat_eq before k || ((has nat_eq s.keys k && not (has nat_eq gone k)) && has nat_eq (take (i + 1) us) (s.target k)))
aiming_next s before set set' gone us targeting i lt are is so_far k =
    ap (λ ks. has nat_eq ks k) is ∙ has_push_all_is (filter (λ j. not (has nat_eq gone j)) targeting) set k
    ∙ ap (λ b. b || has nat_eq (filter (λ j. not (has nat_eq gone j)) targeting) k) (so_far k)
    ∙ ap (λ b. (has nat_eq before k || ((has nat_eq s.keys k && not (has nat_eq gone k)) && has nat_eq (take i us) (s.target k))) || b)
    (has_filter_is (λ j. not (has nat_eq gone j)) targeting k ∙ ap (λ b. b && not (has nat_eq gone k)) (ap (λ ks. has nat_eq ks k) are ∙ has_filter_is (λ j. nat_eq (s.target j) (get_or us i 0)) s.keys k ∙ ap (λ b. has nat_eq s.keys k && b) (same_sym (s.target k) (get_or us i 0))))
    ∙ regroup (has nat_eq before k) (has nat_eq s.keys k) (not (has nat_eq gone k)) (has nat_eq (take i us) (s.target k)) (nat_eq (get_or us i 0) (s.target k))
    ∙ ap (λ b. has nat_eq before k || ((has nat_eq s.keys k && not (has nat_eq gone k)) && b)) (sym (has-take_next nat_eq numbers_exact us i 0 (s.target k) lt))

-- What is put into an empty set.
pub has_put : (set xs : List ℕ) → set ≡ [] → (k : ℕ) → has nat_eq (push_all nat_eq set xs) k ≡ has nat_eq xs k
has_put set xs empty k = ap (λ ys. has nat_eq (push_all nat_eq ys xs) k) empty ∙ has_push_all_is xs [] k

-- the keys that stay and aim into a set, and those that are added, are those that the machine's edit makes wait
pub renewed_exactly : {V : Type 0} (s t : ConstraintSystem ℕ ℕ V) (e : Change ℕ ℕ V) (edit : IsEdit numbers s t e) (before mid set gone added us : List ℕ) → before ≡ [] → ((k : ℕ) → has nat_eq gone k ≡ has nat_eq e.gone k) → added ≡ e.added
    → ((k : ℕ) → has nat_eq mid k ≡ (has nat_eq before k || ((has nat_eq s.keys k && not (has nat_eq gone k)) && has nat_eq us (s.target k)))) → set ≡ push_all nat_eq mid added
    → (k : ℕ) → has nat_eq set k ≡ has nat_eq (renewed numbers s t e (has nat_eq us)) k
renewed_exactly s t e edit before mid set gone added us empty are_gone are_added aimed is k =
    let in_mid : has nat_eq mid k ≡ (stays numbers s t e k && has nat_eq us (s.target k)) = aimed k ∙ ap (λ ks. has nat_eq ks k || ((has nat_eq s.keys k && not (has nat_eq gone k)) && has nat_eq us (s.target k))) empty ∙ ap (λ b. (has nat_eq s.keys k && not b) && has nat_eq us (s.target k)) (are_gone k) in
    let all : has nat_eq set k ≡ ((stays numbers s t e k && has nat_eq us (s.target k)) || has nat_eq e.added k) = ap (λ ks. has nat_eq ks k) is ∙ has_push_all_is added mid k ∙ ap (λ b. b || has nat_eq added k) in_mid ∙ ap (λ ks. (stays numbers s t e k && has nat_eq us (s.target k)) || has nat_eq ks k) are_added in
    all ∙ bool_same ((stays numbers s t e k && has nat_eq us (s.target k)) || has nat_eq e.added k) (has nat_eq (renewed numbers s t e (has nat_eq us)) k)
    (λ h. elim (or_cases (stays numbers s t e k && has nat_eq us (s.target k)) (has nat_eq e.added k) h) [
      | inl aims ↦
          let q : (stays numbers s t e k ≡ true) × (has nat_eq us (s.target k) ≡ true) = and_parts (stays numbers s t e k) (has nat_eq us (s.target k)) aims in
          has-filter_from nat_eq numbers_exact (λ j. has nat_eq e.added j || has nat_eq us (t.target j)) t.keys k (edit.lists.keys k ∙ or_left (stays numbers s t e k) (has nat_eq e.added k) q.0)
          (or_right (has nat_eq e.added k) (has nat_eq us (t.target k)) (ap (has nat_eq us) (edit.same_target k q.0) ∙ q.1))
      | inr new ↦ has-filter_from nat_eq numbers_exact (λ j. has nat_eq e.added j || has nat_eq us (t.target j)) t.keys k (edit.lists.keys k ∙ or_right (stays numbers s t e k) (has nat_eq e.added k) new)
          (or_left (has nat_eq e.added k) (has nat_eq us (t.target k)) new)
    ])
    (λ h.
    let q : (IsKey numbers t k) × ((has nat_eq e.added k || has nat_eq us (t.target k)) ≡ true) = has-filter nat_eq numbers_exact (λ j. has nat_eq e.added j || has nat_eq us (t.target j)) t.keys k h in
    elim (or_cases (has nat_eq e.added k) (has nat_eq us (t.target k)) q.1) [
      | inl new ↦ or_right (stays numbers s t e k && has nat_eq us (s.target k)) (has nat_eq e.added k) new
      | inr aims ↦ elim (or_cases (stays numbers s t e k) (has nat_eq e.added k) (sym (edit.lists.keys k) ∙ q.0)) [
        | inl stay ↦ or_left (stays numbers s t e k && has nat_eq us (s.target k)) (has nat_eq e.added k) (and_from (stays numbers s t e k) (has nat_eq us (s.target k)) stay (ap (has nat_eq us) (sym (edit.same_target k stay)) ∙ aims))
        | inr new ↦ or_right (stays numbers s t e k && has nat_eq us (s.target k)) (has nat_eq e.added k) new
      ]
    ])
