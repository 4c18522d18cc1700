-- Reading things up to a closing byte, turn by turn.
use Rattle.std.proofs.Common.{◌≡◌, ℕ, zero, suc, ◌<◌, true, false, List, [], ◌∷◌, ◌++◌, length, drop, Some, None, Option, refl, sym, ap, ◌∙◌, arith, inl, inr, append_assoc, append-nil}
use Rattle.std.specs.Prelude.{◌⊎◌, nat_lt, if◌then◌else◌}
use Rattle.std.proofs.lemmas.Bool.{cases_Bool}
use Rattle.std.proofs.lemmas.Bool.Decides.{nat_tests}
use Rattle.flow_syntax.proofs.Fronts.{chosen}
use Rattle.value_text.specs.declared.refusal.ValueRefusal.{ValueRefusal}
use Rattle.value_text.specs.declared.refusal.ValueRefusal.TheVariants as refusals
use Rattle.value_text.specs.inner.Reading.{Reading, GivesNone, ◌>>=◌, begins_with, listed_part, next_part, until, all_until, continued}
use Rattle.value_text.proofs.Told.{both_are, bound, passed}

pub option_cases : {X : Type 0} (o : Option X) → (o ≡ None) ⊎ ((x : X) × (o ≡ Some x))
option_cases None = inl refl
option_cases (Some x) = inr (x, refl)

is_less : (m n : ℕ) → m < n → nat_lt m n ≡ true
is_less m n h = grind (arith, nat_tests)

told_less : (m n : ℕ) → nat_lt m n ≡ true → m < n
told_less m n h = grind (arith, nat_tests)

regrouped : {X : Type 0} (before : List X) (x : X) (o : Reading (List X)) → continued before (o >>= λ xs. Some (x ∷ xs.0, xs.1)) ≡ continued (before ++ x ∷ []) o
regrouped before x None = refl
regrouped before x (Some (xs, u)) = simp append_assoc

module _ {X : Type 0} (closing : ℕ) (read : List ℕ → Reading X) where
  -- more turns than bytes change nothing
  until_same : (n m : ℕ) (bs : List ℕ) → length bs < n → length bs < m → until closing read n bs ≡ until closing read m bs
  unfolding until
  until_same zero m bs h k = absurd (omega arith)
  until_same (suc n) zero bs h k = absurd (omega arith)
  until_same (suc n) (suc m) bs h k = elim (cases_Bool (begins_with closing bs)) [
    | inl holds ↦ rw holds refl
    | inr fails ↦ elim (option_cases (read bs)) [
      | inl none ↦ rw (fails, none) refl
      | inr (x, e) ↦ elim (cases_Bool (nat_lt (length x.1) (length bs))) [
        | inl less ↦ (let small : length x.1 < length bs = told_less (length x.1) (length bs) less in
            let same = until_same n m x.1 (omega arith) (omega arith) in
            rw (fails, e, less, same) refl)
        | inr long ↦ rw (fails, e, long) refl
      ]
    ]
  ]

  pub turn : (bs u : List ℕ) (x : X) → begins_with closing bs ≡ false → read bs ≡ Some (x, u) → length u < length bs → all_until closing read bs ≡ (all_until closing read u >>= λ xs. Some (x ∷ xs.0, xs.1))
  unfolding until
  turn bs u x h e less =
      let test : nat_lt (length u) (length bs) ≡ true = is_less (length u) (length bs) less in
      let same = until_same (length bs) (suc (length u)) u less (omega arith) in
      rw (h, e, test, same) refl

  pub none_turn : (bs : List ℕ) → begins_with closing bs ≡ false → read bs ≡ None → all_until closing read bs ≡ None
  unfolding until
  none_turn bs h e = rw (h, e) refl

  pub closed : (n : ℕ) (bs : List ℕ) → begins_with closing bs ≡ true → until closing read (suc n) bs ≡ Some ([], drop 1 bs)
  unfolding until
  closed n bs h = rw h refl

  pub end : (bs : List ℕ) → begins_with closing bs ≡ true → all_until closing read bs ≡ Some ([], drop 1 bs)
  end bs h = closed (length bs) bs h

  -- one turn of a loop that reads
  pub continued_turn : (before after : List X) (bs u : List ℕ) (x : X) → begins_with closing bs ≡ false → read bs ≡ Some (x, u) → length u < length bs → after ≡ before ++ x ∷ []
      → continued after (all_until closing read u) ≡ continued before (all_until closing read bs)
  continued_turn before after bs u x h e less a = rw (turn bs u x h e less, a) (sym (regrouped before x (all_until closing read u)))

  pub continued_none : (before : List X) (bs : List ℕ) → begins_with closing bs ≡ false → read bs ≡ None → continued before (all_until closing read bs) ≡ None
  continued_none before bs h e = rw (none_turn bs h e) refl

  pub continued_end : (before : List X) (bs : List ℕ) → begins_with closing bs ≡ true → continued before (all_until closing read bs) ≡ Some (before, drop 1 bs)
  continued_end before bs h = rw (end bs h) (simp append-nil)

-- a refusal that is handed on
pub none_along : {X Y : Type 0} (e : ValueRefusal) (o : Option X) (q : Option Y) → (o ≡ None → q ≡ None) → GivesNone e o → GivesNone e q
none_along refusals.Form o q f h = f h
none_along refusals.NoMemory o q f h = tt

-- a thing, and what parts it from the next
module _ {X : Type 0} (closing : ℕ) (read : List ℕ → Reading X) where
  pub listed_none : (bs : List ℕ) → read bs ≡ None → listed_part closing read bs ≡ None
  listed_none bs e = rw e refl

  pub unparted : (bs u : List ℕ) (x : X) → read bs ≡ Some (x, u) → next_part closing u ≡ None → listed_part closing read bs ≡ None
  unparted bs u x e d = rw (e, d) refl

  pub listed_read : (bs u v : List ℕ) (x : X) → read bs ≡ Some (x, u) → next_part closing u ≡ Some v → listed_part closing read bs ≡ Some (x, v)
  listed_read bs u v x e d = rw (e, d) refl

-- ** what is told by what was read

-- the closing byte stands in front
pub record Ended {X : Type 0} (closing : ℕ) (bs rest : List ℕ) (xs : List X) : Type 0 where
  pub begins : begins_with closing bs ≡ true
  pub none : xs ≡ []
  pub behind : drop 1 bs ≡ rest

-- one thing, and others behind it
pub record Turned {X : Type 0} (closing : ℕ) (read : List ℕ → Reading X) (n : ℕ) (bs rest : List ℕ) (xs : List X) : Type 0 where
  pub first : X
  pub after : List ℕ
  pub others : List X
  pub read_is : read bs ≡ Some (first, after)
  pub more : until closing read n after ≡ Some (others, rest)
  pub whole : first ∷ others ≡ xs

module _ {X : Type 0} (closing : ℕ) (read : List ℕ → Reading X) where
  pub no_turns : (bs : List ℕ) (x : List X × List ℕ) → until closing read zero bs ≡ Some x → ⊥
  unfolding until
  no_turns bs x e = cc

  pub turned : (n : ℕ) (bs rest : List ℕ) (xs : List X) → until closing read (suc n) bs ≡ Some (xs, rest) → Ended closing bs rest xs ⊎ Turned closing read n bs rest xs
  unfolding until
  turned n bs rest xs e =
      elim (chosen (begins_with closing bs) (Some ([], drop 1 bs))
      (read bs >>= λ x. if nat_lt (length x.1) (length bs) then (until closing read n x.1 >>= λ ys. Some (x.0 ∷ ys.0, ys.1)) else None) (Some (xs, rest)) e) [
        | inl (h, is) ↦ (let p = both_are [] xs (drop 1 bs) rest is in inl (record { begins = h; none = sym p.0; behind = p.1 }))
        | inr (h, is) ↦ (let p = bound (read bs) _ (xs, rest) is in
            let q = passed (nat_lt (length p.0.1) (length bs)) _ (xs, rest) p.2 in
            let r = bound (until closing read n p.0.1) _ (xs, rest) q.1 in
            let s = both_are (p.0.0 ∷ r.0.0) xs r.0.1 rest r.2 in
            inr (record { first = p.0.0; after = p.0.1; others = r.0.0; read_is = p.1; more = r.1 ∙ ap (λ t. Some (r.0.0, t)) s.1; whole = s.0 }))
      ]
