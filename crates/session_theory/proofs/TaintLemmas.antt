-- Each list of steps has a least set of tainted unknowns.
use Rattle.std.proofs.Common.{◌≡◌, ℕ, zero, suc, ◌≤◌, Bool, true, false, ◌||◌, ◌⊎◌, inl, inr, List, [], ◌∷◌, ◌++◌, length, refl, sym, ap, subst, ◌∙◌, arith, length-append}
use Rattle.std.proofs.lemmas.Bool.{or_cases, or_left, or_right, cases_Bool, both_ways}
use Rattle.list_theory.specs.Lists.{has, IsExact}
use Rattle.list_theory.proofs.ListLemmas.{has-append}
use Rattle.constraint_theory.specs.Systems.{Equality, IsEquality, ConstraintSystem}
use Rattle.constraint_theory.specs.Edits.{Change, IsTaint, IsTainted, edited}
use Rattle.session_theory.specs.Moments.{Moment, Repairs, change_between}

-- the first item that passes, or none does
record Passing {A : Type 0} (p : A → Bool) (xs : List A) : Type 0 where
  front : List A
  item : A
  back : List A
  split : xs ≡ front ++ item ∷ back
  passes : p item ≡ true

module _ {A : Type 0} (same : A → A → Bool) (ex : IsExact same) where
  -- whether an item of the first list is in the second
  abbrev meets : List A → List A → Bool
  meets [] ys = false
  meets (x ∷ xs) ys = has same ys x || meets xs ys

  meeting : (xs ys : List A) → meets xs ys ≡ true → (x : A) × (has same xs x ≡ true) × (has same ys x ≡ true)
  meeting [] ys h = absurd (both_ways false refl h)
  meeting (x ∷ xs) ys h = elim (or_cases (has same ys x) (meets xs ys) h) [
    | inl e ↦ (x, or_left (same x x) (has same xs x) (ex.itself x), e)
    | inr r ↦ let i : (y : A) × (has same xs y ≡ true) × (has same ys y ≡ true) = meeting xs ys r in (i.0, or_right (same x i.0) (has same xs i.0) i.1, i.2)
  ]

  met : (xs ys : List A) (x : A) → has same xs x ≡ true → has same ys x ≡ true → meets xs ys ≡ true
  met [] ys x h g = h
  met (y ∷ xs) ys x h g = elim (or_cases (same y x) (has same xs x) h) [
    | inl e ↦ or_left (has same ys y) (meets xs ys) (subst (λ z. has same ys z ≡ true) (sym (ex.exact y x e)) g)
    | inr r ↦ or_right (has same ys y) (meets xs ys) (met xs ys x r g)
  ]

  first_passing : (p : A → Bool) (xs : List A) → Passing p xs ⊎ ((x : A) → has same xs x ≡ true → p x ≡ false)
  first_passing p [] = inr (λ x h. absurd (both_ways false refl h))
  first_passing p (x ∷ xs) = elim (cases_Bool (p x)) [
    | inl e ↦ inl (record { front = []; item = x; back = xs; split = refl; passes = e })
    | inr n ↦ elim (first_passing p xs) [
      | inl f ↦ inl (record { front = x ∷ f.front; item = f.item; back = f.back; split = ap (λ (l : List A). x ∷ l) f.split; passes = f.passes })
      | inr none ↦ inr (λ y h. elim (or_cases (same x y) (has same xs y) h) [ inl e ↦ subst (λ z. p z ≡ false) (ex.exact x y e) n | inr r ↦ none y r ])
    ]
  ]

  -- an item of a list is the one taken out or is left
  left_over : (front back : List A) (x y : A) → has same (front ++ x ∷ back) y ≡ true → (x ≡ y) ⊎ (has same (front ++ back) y ≡ true)
  left_over front back x y h = elim (or_cases (has same front y) (has same (x ∷ back) y) (sym (has-append same ex front (x ∷ back) y) ∙ h)) [
    | inl e ↦ inr (has-append same ex front back y ∙ or_left (has same front y) (has same back y) e)
    | inr r ↦ elim (or_cases (same x y) (has same back y) r) [
      | inl e ↦ inl (ex.exact x y e)
      | inr b ↦ inr (has-append same ex front back y ∙ or_right (has same front y) (has same back y) b)
    ]
  ]

  was_there : (front back : List A) (x y : A) → has same (front ++ back) y ≡ true → has same (front ++ x ∷ back) y ≡ true
  was_there front back x y h = has-append same ex front (x ∷ back) y ∙ elim (or_cases (has same front y) (has same back y) (sym (has-append same ex front back y) ∙ h)) [
    | inl e ↦ or_left (has same front y) (has same (x ∷ back) y) e
    | inr b ↦ or_right (has same front y) (has same (x ∷ back) y) (or_right (same x y) (has same back y) b)
  ]

module _ {K U V : Type 0} (same : Equality K U) (tells : IsEquality same) (s t : ConstraintSystem K U V) (e : Change K U V) (steps : List K) where
  -- the step taints its target, where these unknowns are tainted
  abbrev fires : List U → K → Bool
  fires set k = has same.key e.gone k || meets same.unknown tells.unknowns (s.reads k) set

  -- what holds of the steps that didn't fire yet and of the unknowns that are tainted so far
  record Tainting (pending : List K) (set : List U) : Type 0 where
    spread : (k : K) → has same.key steps k ≡ true → (has same.key pending k ≡ true) ⊎ (has same.unknown set (s.target k) ≡ true)
    steps_only : (k : K) → has same.key pending k ≡ true → has same.key steps k ≡ true
    least : (other : U → Bool) → IsTaint same s t e steps other → (u : U) → has same.unknown set u ≡ true → other u ≡ true

  -- none fires: the set is closed
  closed : (pending : List K) (set : List U) → Tainting pending set → ((k : K) → has same.key pending k ≡ true → fires set k ≡ false) → (taint : U → Bool) × IsTainted same s t e steps taint
  closed pending set inv none = (
    has same.unknown set,
    (
      record {
        from_gone = λ k step gone. elim (inv.spread k step) [
          | inl waits ↦ absurd (both_ways (fires set k) (none k waits) (or_left (has same.key e.gone k) (meets same.unknown tells.unknowns (s.reads k) set) gone))
          | inr there ↦ there
        ];
        along = λ k u step read tainted. elim (inv.spread k step) [
          | inl waits ↦ absurd (both_ways (fires set k) (none k waits) (or_right (has same.key e.gone k) (meets same.unknown tells.unknowns (s.reads k) set) (met same.unknown tells.unknowns (s.reads k) set u read tainted)))
          | inr there ↦ there
        ];
      },
      λ other taint u h. inv.least other taint u h,
    ),
  )

  -- one fires: its target is tainted
  fired : (front back : List K) (k : K) (pending : List K) (set : List U) → pending ≡ front ++ k ∷ back → fires set k ≡ true → Tainting pending set → Tainting (front ++ back) (s.target k ∷ set)
  fired front back k pending set split fire inv = record {
    spread = λ j step. elim (inv.spread j step) [
      | inl waits ↦ elim (left_over same.key tells.keys front back k j (ap (λ (l : List K). has same.key l j) (sym split) ∙ waits)) [
        | inl is ↦ inr (or_left (same.unknown (s.target k) (s.target j)) (has same.unknown set (s.target j)) (subst (λ i. same.unknown (s.target k) (s.target i) ≡ true) is (tells.unknowns.itself (s.target k))))
        | inr left ↦ inl left
      ]
      | inr there ↦ inr (or_right (same.unknown (s.target k) (s.target j)) (has same.unknown set (s.target j)) there)
    ];
    steps_only = λ j h. inv.steps_only j (ap (λ (l : List K). has same.key l j) split ∙ was_there same.key tells.keys front back k j h);
    least = λ other taint u h. elim (or_cases (same.unknown (s.target k) u) (has same.unknown set u) h) [
      | inl is ↦ subst (λ w. other w ≡ true) (tells.unknowns.exact (s.target k) u is)
          (let step : has same.key steps k ≡ true = inv.steps_only k (ap (λ (l : List K). has same.key l k) split ∙ has-append same.key tells.keys front (k ∷ back) k ∙ or_right (has same.key front k) (has same.key (k ∷ back) k) (or_left (same.key k k) (has same.key back k) (tells.keys.itself k))) in
          elim (or_cases (has same.key e.gone k) (meets same.unknown tells.unknowns (s.reads k) set) fire) [
            | inl gone ↦ taint.from_gone k step gone
            | inr some ↦ let m : (w : U) × (has same.unknown (s.reads k) w ≡ true) × (has same.unknown set w ≡ true) = meeting same.unknown tells.unknowns (s.reads k) set some in taint.along k m.0 step m.1 (inv.least other taint m.0 m.2)
          ])
      | inr there ↦ inv.least other taint u there
    ];
  }

  grown : (n : ℕ) (pending : List K) (set : List U) → length pending ≤ n → Tainting pending set → (taint : U → Bool) × IsTainted same s t e steps taint
  grown zero pending set small inv = elim (first_passing same.key tells.keys (fires set) pending) [
    | inl f ↦ absurd (omega (arith, small, ap length f.split, length-append f.front (f.item ∷ f.back)))
    | inr none ↦ closed pending set inv none
  ]
  grown (suc n) pending set small inv = elim (first_passing same.key tells.keys (fires set) pending) [
    | inl f ↦ grown n (f.front ++ f.back) (s.target f.item ∷ set) (omega (arith, small, ap length f.split, length-append f.front (f.item ∷ f.back), length-append f.front f.back)) (fired f.front f.back f.item pending set f.split f.passes inv)
    | inr none ↦ closed pending set inv none
  ]

  -- there is a least set of tainted unknowns
  pub has_taint : (taint : U → Bool) × IsTainted same s t e steps taint
  has_taint = grown (length steps) steps [] (omega arith) (record { spread = λ k h. inl h; steps_only = λ k h. h; least = λ other taint u h. absurd (both_ways false refl h) })

-- where both trees have their constraints, a moment can be repaired
module _ {T K U V : Type 0} (same : Equality K U) (tells : IsEquality same) (IsSystemOf : T → ConstraintSystem K U V → Type 0) where
  pub repair : (m : Moment T K) (new : T) (s t : ConstraintSystem K U V) → IsSystemOf m.tree s → IsSystemOf new t → (next : Moment T K) × Repairs same IsSystemOf m new next
  repair m new s t of_old of_new =
      let taint : (taint : U → Bool) × IsTainted same s t (change_between same IsSystemOf s t) m.state.steps taint = has_taint same tells s t (change_between same IsSystemOf s t) m.state.steps in
      (record { tree = new; state = edited same s t (change_between same IsSystemOf s t) taint.0 m.state }, record { old = s; of_old = of_old; new = t; of_new = of_new; taint = taint.0; tainted = taint.1; is = refl })
