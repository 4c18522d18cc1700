-- The walk that finds what an edit taints.
use Rattle.std.proofs.Common.{◌≡◌, ℕ, zero, suc, ◌+◌, ◌<◌, ◌≤◌, Bool, true, false, cond, List, [], ◌∷◌, ◌++◌, length, take, map, refl, sym, ap, ◌∙◌, arith, inl, inr, length-append}
use Rattle.std.specs.Prelude.{nat_eq, get_or, filter}
use Rattle.std.proofs.lemmas.Bool.{or_cases, or_left, or_right, eqb-true, true≢false}
use Rattle.list_theory.specs.Lists.{has, distinct, push_one, push_all}
use Rattle.list_theory.proofs.ListLemmas.{has-filter, has-filter_from, has-push_all, push_all_keeps, push_all_there, distinct-push_all, has-take_next, has-get_or, length_distinct}
use Rattle.list_theory.proofs.NumberLemmas.{numbers_exact}
use Rattle.constraint_theory.specs.Systems.{ConstraintSystem, IsKey, IsUnknown, IsMonotone, Reads, numbers, readers}
use Rattle.constraint_theory.specs.Edits.{Change, IsEdit, IsTaint}

has-map : (f : ℕ → ℕ) (ks : List ℕ) (u : ℕ) → has nat_eq (map f ks) u ≡ true → (k : ℕ) × (has nat_eq ks k ≡ true) × (f k ≡ u)
has-map f [] u h = absurd (true≢false (sym h))
has-map f (k ∷ ks) u h = elim (or_cases (nat_eq (f k) u) (has nat_eq (map f ks) u) h) [
  | inl e ↦ (k, or_left (nat_eq k k) (has nat_eq ks k) (numbers_exact.itself k), eqb-true (f k) u e)
  | inr r ↦ let p : (j : ℕ) × (has nat_eq ks j ≡ true) × (f j ≡ u) = has-map f ks u r in (p.0, or_right (nat_eq k p.0) (has nat_eq ks p.0) p.1, p.2)
]

has-map_from : (f : ℕ → ℕ) (ks : List ℕ) (k : ℕ) → has nat_eq ks k ≡ true → has nat_eq (map f ks) (f k) ≡ true
has-map_from f [] k h = absurd (true≢false (sym h))
has-map_from f (j ∷ ks) k h = elim (or_cases (nat_eq j k) (has nat_eq ks k) h) [
  | inl e ↦ or_left (nat_eq (f j) (f k)) (has nat_eq (map f ks) (f k)) (ap (λ x. nat_eq (f j) (f x)) (sym (eqb-true j k e)) ∙ numbers_exact.itself (f j))
  | inr r ↦ or_right (nat_eq (f j) (f k)) (has nat_eq (map f ks) (f k)) (has-map_from f ks k r)
]

take-append : (n : ℕ) (xs ys : List ℕ) → n ≤ length xs → take n (xs ++ ys) ≡ take n xs
take-append zero xs ys h = refl
take-append (suc n) [] ys h = absurd (omega arith)
take-append (suc n) (x ∷ xs) ys h = ap (λ zs. x ∷ zs) (take-append n xs ys (omega arith))

take-push_one : (n : ℕ) (ys : List ℕ) (x : ℕ) → n ≤ length ys → (take n (push_one nat_eq ys x) ≡ take n ys) × (n ≤ length (push_one nat_eq ys x))
take-push_one n ys x h = elim (has nat_eq ys x) as (λ b. (take n (cond b ys (ys ++ x ∷ [])) ≡ take n ys) × (n ≤ length (cond b ys (ys ++ x ∷ [])))) [
  | true ↦ (refl, h)
  | false ↦ (take-append n ys (x ∷ []) h, omega (arith, h, length-append ys (x ∷ [])))
]

-- what is put in comes behind what is there
take-push_all : (n : ℕ) (xs ys : List ℕ) → n ≤ length ys → (take n (push_all nat_eq ys xs) ≡ take n ys) × (n ≤ length (push_all nat_eq ys xs))
take-push_all n [] ys h = (refl, h)
take-push_all n (x ∷ xs) ys h =
    let one : (take n (push_one nat_eq ys x) ≡ take n ys) × (n ≤ length (push_one nat_eq ys x)) = take-push_one n ys x h in
    let rest : (take n (push_all nat_eq (push_one nat_eq ys x) xs) ≡ take n (push_one nat_eq ys x)) × (n ≤ length (push_all nat_eq (push_one nat_eq ys x) xs)) = take-push_all n xs (push_one nat_eq ys x) one.1 in
    (rest.0 ∙ one.0, rest.1)

pub reader_known : {V : Type 0} (s : ConstraintSystem ℕ ℕ V) (rs : List ℕ) (u : ℕ) → rs ≡ readers numbers s u → (k : ℕ) → has nat_eq rs k ≡ true → IsKey numbers s k
reader_known s rs u are k h = (has-filter nat_eq numbers_exact (λ j. has nat_eq (s.reads j) u) s.keys k (ap (λ ks. has nat_eq ks k) (sym are) ∙ h)).0

module _ {V : Type 0} (s t : ConstraintSystem ℕ ℕ V) (e : Change ℕ ℕ V) where
  -- Unknowns that are tainted, each once: the targets of gone steps are there, and of the first `done` the targets of the
  -- steps that read them.
  pub record IsWalk (steps us : List ℕ) (done : ℕ) : Type 0 where
    pub once : distinct nat_eq us ≡ true
    pub used : (u : ℕ) → has nat_eq us u ≡ true → IsUnknown numbers s u
    pub inside : (other : ℕ → Bool) → IsTaint numbers s t e steps other → (u : ℕ) → has nat_eq us u ≡ true → other u ≡ true
    pub from_gone : (k : ℕ) → has nat_eq steps k ≡ true → has nat_eq e.gone k ≡ true → has nat_eq us (s.target k) ≡ true
    pub along : (k u : ℕ) → has nat_eq steps k ≡ true → Reads numbers s k u → has nat_eq (take done us) u ≡ true → has nat_eq us (s.target k) ≡ true
    pub within : done ≤ length us

  module _ (old : IsMonotone numbers s) (edit : IsEdit numbers s t e) (steps : List ℕ) (known : (k : ℕ) → has nat_eq steps k ≡ true → IsKey numbers s k) where
    -- the targets of the steps among some keys
    abbrev targets : List ℕ → List ℕ
    targets ks = map s.target (filter (has nat_eq steps) ks)

    target_of : (ks : List ℕ) (u : ℕ) → has nat_eq (targets ks) u ≡ true → (k : ℕ) × (has nat_eq ks k ≡ true) × (has nat_eq steps k ≡ true) × (s.target k ≡ u)
    target_of ks u h =
        let p : (k : ℕ) × (has nat_eq (filter (has nat_eq steps) ks) k ≡ true) × (s.target k ≡ u) = has-map s.target (filter (has nat_eq steps) ks) u h in
        let q : (has nat_eq ks p.0 ≡ true) × (has nat_eq steps p.0 ≡ true) = has-filter nat_eq numbers_exact (has nat_eq steps) ks p.0 p.1 in
        (p.0, q.0, q.1, p.2)

    target_there : (ks : List ℕ) (k : ℕ) → has nat_eq ks k ≡ true → has nat_eq steps k ≡ true → has nat_eq (targets ks) (s.target k) ≡ true
    target_there ks k h w = has-map_from s.target (filter (has nat_eq steps) ks) k (has-filter_from nat_eq numbers_exact (has nat_eq steps) ks k h w)

    pub walk_start : (us gone : List ℕ) → gone ≡ e.gone → us ≡ push_all nat_eq [] (targets gone) → IsWalk steps us 0
    walk_start us gone eg is = rw (is, eg) (record {
      once = distinct-push_all nat_eq numbers_exact (targets e.gone) [] refl;
      used = λ u h. elim (has-push_all nat_eq numbers_exact (targets e.gone) [] u h) [
        | inl none ↦ absurd (true≢false (sym none))
        | inr there ↦ let p : (k : ℕ) × (has nat_eq e.gone k ≡ true) × (has nat_eq steps k ≡ true) × (s.target k ≡ u) = target_of e.gone u there in ap (has nat_eq s.unknowns) (sym p.3) ∙ old.target_used p.0 (known p.0 p.2)
      ];
      inside = λ other closed u h. elim (has-push_all nat_eq numbers_exact (targets e.gone) [] u h) [
        | inl none ↦ absurd (true≢false (sym none))
        | inr there ↦ let p : (k : ℕ) × (has nat_eq e.gone k ≡ true) × (has nat_eq steps k ≡ true) × (s.target k ≡ u) = target_of e.gone u there in ap other (sym p.3) ∙ closed.from_gone p.0 p.2 p.1
      ];
      from_gone = λ k w g. push_all_there nat_eq numbers_exact (targets e.gone) [] (s.target k) (target_there e.gone k g w);
      along = λ k u w read none. absurd (true≢false (sym none));
      within = omega arith;
    })

    module _ (us us' rs : List ℕ) (done : ℕ) (walk : IsWalk steps us done) (more : done < length us) (are : rs ≡ readers numbers s (get_or us done 0)) (is : us' ≡ push_all nat_eq us (targets rs)) where
      here : has nat_eq us (get_or us done 0) ≡ true
      here = has-get_or nat_eq numbers_exact us done 0 more

      reader : (k : ℕ) → has nat_eq rs k ≡ true → (IsKey numbers s k) × (Reads numbers s k (get_or us done 0))
      reader k h = has-filter nat_eq numbers_exact (λ j. has nat_eq (s.reads j) (get_or us done 0)) s.keys k (ap (λ ks. has nat_eq ks k) (sym are) ∙ h)

      new_one : (u : ℕ) → has nat_eq (targets rs) u ≡ true → (k : ℕ) × (has nat_eq steps k ≡ true) × (Reads numbers s k (get_or us done 0)) × (s.target k ≡ u)
      new_one u h = let p : (k : ℕ) × (has nat_eq rs k ≡ true) × (has nat_eq steps k ≡ true) × (s.target k ≡ u) = target_of rs u h in (p.0, p.2, (reader p.0 p.1).1, p.3)

      pub walk_next : IsWalk steps us' (done + 1)
      walk_next = rw is (record {
        once = distinct-push_all nat_eq numbers_exact (targets rs) us walk.once;
        used = λ u h. elim (has-push_all nat_eq numbers_exact (targets rs) us u h) [
          | inl w ↦ walk.used u w
          | inr w ↦ let p : (k : ℕ) × (has nat_eq steps k ≡ true) × (Reads numbers s k (get_or us done 0)) × (s.target k ≡ u) = new_one u w in ap (has nat_eq s.unknowns) (sym p.3) ∙ old.target_used p.0 (known p.0 p.1)
        ];
        inside = λ other closed u h. elim (has-push_all nat_eq numbers_exact (targets rs) us u h) [
          | inl w ↦ walk.inside other closed u w
          | inr w ↦ let p : (k : ℕ) × (has nat_eq steps k ≡ true) × (Reads numbers s k (get_or us done 0)) × (s.target k ≡ u) = new_one u w in ap other (sym p.3) ∙ closed.along p.0 (get_or us done 0) p.1 p.2 (walk.inside other closed (get_or us done 0) here)
        ];
        from_gone = λ k w g. push_all_keeps nat_eq numbers_exact (targets rs) us (s.target k) (walk.from_gone k w g);
        along = λ k u w read h.
            let first : has nat_eq (take (done + 1) us) u ≡ true = ap (λ ks. has nat_eq ks u) (sym (take-push_all (done + 1) (targets rs) us (omega arith)).0) ∙ h in
            elim (or_cases (has nat_eq (take done us) u) (nat_eq (get_or us done 0) u) (sym (has-take_next nat_eq numbers_exact us done 0 u more) ∙ first)) [
              | inl before ↦ push_all_keeps nat_eq numbers_exact (targets rs) us (s.target k) (walk.along k u w read before)
              | inr now ↦
                  let same : get_or us done 0 ≡ u = eqb-true (get_or us done 0) u now in
                  let reads : Reads numbers s k (get_or us done 0) = ap (has nat_eq (s.reads k)) same ∙ read in
                  push_all_there nat_eq numbers_exact (targets rs) us (s.target k) (target_there rs k (ap (λ ks. has nat_eq ks k) are ∙ has-filter_from nat_eq numbers_exact (λ j. has nat_eq (s.reads j) (get_or us done 0)) s.keys k (known k w) reads) w)
            ];
        within = (take-push_all (done + 1) (targets rs) us (omega arith)).1;
      })

    -- there are no more of them than unknowns
    pub walk_short : (us : List ℕ) (done : ℕ) → IsWalk steps us done → length us ≤ length s.unknowns
    walk_short us done walk = length_distinct nat_eq numbers_exact us s.unknowns walk.once walk.used
