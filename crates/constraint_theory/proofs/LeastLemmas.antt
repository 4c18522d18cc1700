-- What the laws of a system give of the machine: values below each solution, the least solution at rest, and a bound on visits.
use Rattle.std.proofs.Common.{◌≡◌, Bool, true, false, cond, ◌||◌, List, [], ◌∷◌, ◌++◌, refl, sym, ap, ◌∙◌, inl, inr}
use Rattle.std.proofs.lemmas.Bool.{true≢false, or_cases, or_left, or_right, both_ways}
use Rattle.list_theory.specs.Lists.{has}
use Rattle.constraint_theory.specs.Systems.{Fits, ConstraintSystem, IsMonotone, IsNarrower, with_test, IsLeast, Fitting, AllBelow, Satisfies, Equality, IsEquality, IsKey, IsUnknown}
use Rattle.constraint_theory.specs.Machine.{State, IsSound, joined, replay, replay_from, begin}
use Rattle.list_theory.proofs.ListLemmas.{has-append}

module _ {K U V : Type 0} (same : Equality K U) (tells : IsEquality same) (s : ConstraintSystem K U V) (law : IsMonotone same s) where
  -- the order at an unknown in use
  pub leq_refl : (u : U) (a : V) → IsUnknown same s u → Fits s u a → s.leq u a a ≡ true
  leq_refl u a used fa = law.join_leq u a a used fa fa (law.idempotent u a used fa)

  pub leq_trans : (u : U) (a b c : V) → IsUnknown same s u → Fits s u a → Fits s u b → Fits s u c → s.leq u a b ≡ true → s.leq u b c ≡ true → s.leq u a c ≡ true
  leq_trans u a b c used fa fb fc ab bc =
      let eab : s.join u a b ≡ b = law.leq_join u a b used fa fb ab in
      let ebc : s.join u b c ≡ c = law.leq_join u b c used fb fc bc in
      law.join_leq u a c used fa fc
      (ap (s.join u a) (sym ebc) ∙ sym (law.associative u a b c used fa fb fc) ∙ ap (λ x. s.join u x c) eab ∙ ebc)

  pub leq_join_left : (u : U) (a b : V) → IsUnknown same s u → Fits s u a → Fits s u b → s.leq u a (s.join u a b) ≡ true
  leq_join_left u a b used fa fb =
      law.join_leq u a (s.join u a b) used fa (law.join_fits u a b used fa fb)
      (sym (law.associative u a a b used fa fa fb) ∙ ap (λ x. s.join u x b) (law.idempotent u a used fa))

  pub leq_join_right : (u : U) (a b : V) → IsUnknown same s u → Fits s u a → Fits s u b → s.leq u b (s.join u a b) ≡ true
  leq_join_right u a b used fa fb = ap (s.leq u b) (law.commutative u a b used fa fb) ∙ leq_join_left u b a used fb fa

  pub join_least : (u : U) (a b c : V) → IsUnknown same s u → Fits s u a → Fits s u b → Fits s u c → s.leq u a c ≡ true → s.leq u b c ≡ true → s.leq u (s.join u a b) c ≡ true
  join_least u a b c used fa fb fc ac bc =
      law.join_leq u (s.join u a b) c used (law.join_fits u a b used fa fb) fc
      (law.associative u a b c used fa fb fc ∙ ap (s.join u a) (law.leq_join u b c used fb fc bc) ∙ law.leq_join u a c used fa fc ac)

  pub antisymmetric : (u : U) (a b : V) → IsUnknown same s u → Fits s u a → Fits s u b → s.leq u a b ≡ true → s.leq u b a ≡ true → a ≡ b
  antisymmetric u a b used fa fb ab ba = sym (law.leq_join u b a used fb fa ba) ∙ law.commutative u b a used fb fa ∙ law.leq_join u a b used fa fb ab

  pub bottom_least : (u : U) (a : V) → IsUnknown same s u → Fits s u a → s.leq u (s.bottom u) a ≡ true
  bottom_least u a used fa = law.join_leq u (s.bottom u) a used (law.bottom_fits u used) fa (law.neutral u a used fa)

  -- one step
  pub at_step : (P : U → V → Type 0) (a : U → V) (k : K) (u : U) → P (s.target k) (s.join (s.target k) (a (s.target k)) (s.eval k a)) → (same.unknown u (s.target k) ≡ false → P u (a u)) → P u (joined same s a k u)
  at_step P a k u here other =
      elim (same.unknown u (s.target k)) as (λ b. same.unknown u (s.target k) ≡ b → P u (cond b (s.join (s.target k) (a (s.target k)) (s.eval k a)) (a u))) [
        | true ↦ λ e. rw (tells.unknowns.exact u (s.target k) e) here
        | false ↦ λ e. other e
      ] refl

  pub joined_other : (a : U → V) (k : K) (u : U) → same.unknown u (s.target k) ≡ false → joined same s a k u ≡ a u
  joined_other a k u e = ap (λ b. cond b (s.join (s.target k) (a (s.target k)) (s.eval k a)) (a u)) e

  pub joined_here : (a : U → V) (k : K) → joined same s a k (s.target k) ≡ s.join (s.target k) (a (s.target k)) (s.eval k a)
  joined_here a k = ap (λ b. cond b (s.join (s.target k) (a (s.target k)) (s.eval k a)) (a (s.target k))) (tells.unknowns.itself (s.target k))

  pub fits_joined : (a : U → V) (k : K) → Fitting same s a → IsKey same s k → Fitting same s (joined same s a k)
  fits_joined a k fa known u used =
      at_step (Fits s) a k u
      (law.join_fits (s.target k) (a (s.target k)) (s.eval k a) (law.target_used k known) (fa (s.target k) (law.target_used k known)) (law.eval_fits k a known fa))
      (λ _. fa u used)

  pub below_joined : (a : U → V) (k : K) → Fitting same s a → IsKey same s k → AllBelow same s a (joined same s a k)
  below_joined a k fa known u used =
      at_step (λ w v. s.leq w (a w) v ≡ true) a k u
      (leq_join_left (s.target k) (a (s.target k)) (s.eval k a) (law.target_used k known) (fa (s.target k) (law.target_used k known)) (law.eval_fits k a known fa))
      (λ _. leq_refl u (a u) used (fa u used))

  -- a step from below a solution stays below it
  pub joined_below : (a b : U → V) (k : K) → Fitting same s a → Fitting same s b → Satisfies same s b → AllBelow same s a b → IsKey same s k → AllBelow same s (joined same s a k) b
  joined_below a b k fa fb sat ab known u used =
      let ut : IsUnknown same s (s.target k) = law.target_used k known in
      at_step (λ w v. s.leq w v (b w) ≡ true) a k u
      (join_least (s.target k) (a (s.target k)) (s.eval k a) (b (s.target k)) ut (fa (s.target k) ut) (law.eval_fits k a known fa) (fb (s.target k) ut) (ab (s.target k) ut)
      (leq_trans (s.target k) (s.eval k a) (s.eval k b) (b (s.target k)) ut (law.eval_fits k a known fa) (law.eval_fits k b known fb) (fb (s.target k) ut) (law.eval_monotone k a b known fa fb ab) (sat k known)))
      (λ _. ab u used)

  -- steps
  abbrev pub AllKnown : List K → Type 0
  AllKnown ks = (k : K) → has same.key ks k ≡ true → IsKey same s k

  pub known_head : (k : K) (ks : List K) → AllKnown (k ∷ ks) → IsKey same s k
  known_head k ks all = all k (or_left (same.key k k) (has same.key ks k) (tells.keys.itself k))

  pub known_tail : (k : K) (ks : List K) → AllKnown (k ∷ ks) → AllKnown ks
  known_tail k ks all j h = all j (or_right (same.key k j) (has same.key ks j) h)

  pub known_push : (ks : List K) (k : K) → AllKnown ks → IsKey same s k → AllKnown (ks ++ k ∷ [])
  known_push ks k all known j h =
      elim (or_cases (has same.key ks j) (same.key k j || false) (sym (has-append same.key tells.keys ks (k ∷ []) j) ∙ h)) [
        | inl e ↦ all j e
        | inr e ↦ elim (or_cases (same.key k j) false e) [ inl e ↦ ap (has same.key s.keys) (sym (tells.keys.exact k j e)) ∙ known | inr e ↦ absurd (true≢false (sym e)) ]
      ]

  pub fits_from : (ks : List K) (a : U → V) → Fitting same s a → AllKnown ks → Fitting same s (replay_from same s a ks)
  fits_from [] a fa all = fa
  fits_from (k ∷ ks) a fa all = fits_from ks (joined same s a k) (fits_joined a k fa (known_head k ks all)) (known_tail k ks all)

  pub fits_replay : (ks : List K) → AllKnown ks → Fitting same s (replay same s ks)
  fits_replay ks all = fits_from ks s.bottom law.bottom_fits all

  pub below_from : (ks : List K) (a b : U → V) → Fitting same s a → Fitting same s b → Satisfies same s b → AllBelow same s a b → AllKnown ks → AllBelow same s (replay_from same s a ks) b
  below_from [] a b fa fb sat ab all = ab
  below_from (k ∷ ks) a b fa fb sat ab all =
      below_from ks (joined same s a k) b (fits_joined a k fa (known_head k ks all)) fb sat (joined_below a b k fa fb sat ab (known_head k ks all)) (known_tail k ks all)

  -- the values lie below each solution
  pub replay_below : (ks : List K) (b : U → V) → AllKnown ks → Fitting same s b → Satisfies same s b → AllBelow same s (replay same s ks) b
  replay_below ks b all fb sat = below_from ks s.bottom b law.bottom_fits fb sat (λ u used. bottom_least u (b u) used (fb u used)) all

  pub replay_push : (ks : List K) (a : U → V) (k : K) → replay_from same s a (ks ++ k ∷ []) ≡ joined same s (replay_from same s a ks) k
  replay_push [] a k = refl
  replay_push (j ∷ ks) a k = replay_push ks (joined same s a j) k

  -- a sound state in which nothing waits has same.key the least solution
  pub least_at_rest : (st : State K) → IsSound same s st → ((k : K) → has same.key st.waiting k ≡ false) → IsLeast same s (replay same s st.steps)
  least_at_rest st sound rest = record {
    fits = fits_replay st.steps sound.steps_known;
    satisfies = λ k known. sound.satisfied k known (rest k);
    below_others = λ b fb sat. replay_below st.steps b sound.steps_known fb sat;
  }

  pub sound_begin : IsSound same s (begin same s)
  sound_begin = record {
    steps_known = λ k h. absurd (true≢false (sym h));
    waiting_known = λ k h. h;
    waiting_once = law.keys_once;
    satisfied = λ k known n. absurd (both_ways (has same.key s.keys k) n known);
  }

  -- the replay of known steps is the least solution where it is one
  pub replay_least : (ks : List K) → AllKnown ks → Satisfies same s (replay same s ks) → IsLeast same s (replay same s ks)
  replay_least ks all sat = record { fits = fits_replay ks all; satisfies = sat; below_others = λ b fb sb. replay_below ks b all fb sb }

  pub least_unique : (a b : U → V) → IsLeast same s a → IsLeast same s b → (u : U) → IsUnknown same s u → a u ≡ b u
  least_unique a b la lb u used =
      antisymmetric u (a u) (b u) used (la.fits u used) (lb.fits u used) (la.below_others b lb.fits lb.satisfies u used) (lb.below_others a la.fits la.satisfies u used)

-- where values that fit are valid, and what gives values keeps to them, the laws of order hold of them
module _ {K U V : Type 0} (same : Equality K U) (s : ConstraintSystem K U V) (valid : U → V → Bool) (law : IsMonotone same (with_test s valid)) where
  pub narrower_monotone : IsNarrower same s valid → IsMonotone same s
  narrower_monotone narrow = record {
    keys_once = law.keys_once;
    target_used = law.target_used;
    reads_used = law.reads_used;
    bottom_fits = narrow.bottom_fits;
    join_fits = narrow.join_fits;
    eval_fits = narrow.eval_fits;
    leq_join = λ u a b used fa fb. law.leq_join u a b used (narrow.valid_too u a used fa) (narrow.valid_too u b used fb);
    join_leq = λ u a b used fa fb. law.join_leq u a b used (narrow.valid_too u a used fa) (narrow.valid_too u b used fb);
    idempotent = λ u a used fa. law.idempotent u a used (narrow.valid_too u a used fa);
    commutative = λ u a b used fa fb. law.commutative u a b used (narrow.valid_too u a used fa) (narrow.valid_too u b used fb);
    associative = λ u a b c used fa fb fc. law.associative u a b c used (narrow.valid_too u a used fa) (narrow.valid_too u b used fb) (narrow.valid_too u c used fc);
    neutral = λ u a used fa. law.neutral u a used (narrow.valid_too u a used fa);
    eval_monotone = λ k a b known fa fb. law.eval_monotone k a b known (λ u used. narrow.valid_too u (a u) used (fa u used)) (λ u used. narrow.valid_too u (b u) used (fb u used));
    eval_reads = λ k a b known fa fb. law.eval_reads k a b known (λ u used. narrow.valid_too u (a u) used (fa u used)) (λ u used. narrow.valid_too u (b u) used (fb u used));
  }

  -- soundness speaks of no test, and the values are the same whatever fits
  sound_valid : (st : State K) → IsSound same s st → IsSound same (with_test s valid) st
  sound_valid st sound = record { steps_known = sound.steps_known; waiting_known = sound.waiting_known; waiting_once = sound.waiting_once; satisfied = sound.satisfied }

  replay_valid : (a : U → V) (ks : List K) → replay_from same s a ks ≡ replay_from same (with_test s valid) a ks
  replay_valid a [] = refl
  replay_valid a (k ∷ ks) = replay_valid (joined same s a k) ks

  -- so at rest the values are the least of the valid solutions
  pub least_valid : IsEquality same → (st : State K) → IsSound same s st → ((k : K) → has same.key st.waiting k ≡ false) → IsLeast same (with_test s valid) (replay same s st.steps)
  least_valid tells st sound rest = rw (replay_valid s.bottom st.steps) (least_at_rest same tells (with_test s valid) law st (sound_valid st sound) rest)
