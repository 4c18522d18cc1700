-- Laws of a system hold of each system that is it by name.
use Rattle.std.proofs.Common.{◌≡◌, true, cond, List, [], ◌∷◌, sym, ap, ◌∙◌, inl, inr, arith}
use Rattle.std.proofs.lemmas.Bool.{true≢false, or_cases, or_left, or_right, both_ways, cases_Bool}
use Rattle.list_theory.specs.Lists.{has, distinct}
use Rattle.constraint_theory.specs.Systems.{ConstraintSystem, Equality, IsEquality, IsMonotone, AreRanks, Fits, Fitting, AllBelow, IsKey, IsUnknown, Reads}
use Rattle.constraint_names.specs.Naming.{Naming, IsNamed, IsFaithful, HasNamedRanks, Agrees}
use Rattle.constraint_names.proofs.MapLemmas.{same_by_name, distinct-map_back}
use Rattle.constraint_names.proofs.NamingLemmas as by_name

module _ {K U V L W X : Type 0} (same : Equality K U) (other : Equality L W) (tells : IsEquality same) (tells' : IsEquality other) (s : ConstraintSystem K U V) (t : ConstraintSystem L W X) (n : Naming K U V L W X) (names : IsNamed same other s t n) where
  -- an assignment by name that agrees with one: at a name the value of what it names
  abbrev carried_in : (U → V) → List U → W → X
  carried_in a [] w = t.bottom w
  carried_in a (u ∷ us) w = cond (other.unknown (n.unknown u) w) (n.value u (a u)) (carried_in a us w)

  carried_at : (a : U → V) (us : List U) (u : U) → ((v : U) → has same.unknown us v ≡ true → IsUnknown same s v) → has same.unknown us u ≡ true → carried_in a us (n.unknown u) ≡ n.value u (a u)
  carried_at a [] u all h = absurd (true≢false (sym h))
  carried_at a (v ∷ us) u all h =
      let told : other.unknown (n.unknown v) (n.unknown u) ≡ same.unknown v u = same_by_name same.unknown other.unknown tells.unknowns tells'.unknowns n.unknown (IsUnknown same s) names.own_unknown v u (all v (or_left (same.unknown v v) (has same.unknown us v) (tells.unknowns.itself v))) (all u h) in
      elim (cases_Bool (same.unknown v u)) [
        | inl e ↦ ap (λ c. cond c (n.value v (a v)) (carried_in a us (n.unknown u))) (told ∙ e) ∙ ap (λ x. n.value x (a x)) (tells.unknowns.exact v u e)
        | inr d ↦ ap (λ c. cond c (n.value v (a v)) (carried_in a us (n.unknown u))) (told ∙ d)
            ∙ carried_at a us u (λ x i. all x (or_right (same.unknown v x) (has same.unknown us x) i)) (elim (or_cases (same.unknown v u) (has same.unknown us u) h) [ inl e ↦ absurd (both_ways (same.unknown v u) d e) | inr r ↦ r ])
      ]

  abbrev pub carried : (U → V) → W → X
  carried a w = carried_in a s.unknowns w

  pub agrees_carried : (a : U → V) → Agrees same other s t n a (carried a)
  agrees_carried a u used = carried_at a s.unknowns u (λ v h. h) used

  pub fits_carried : (a : U → V) → Fitting same s a → Fitting other t (carried a)
  fits_carried a fa w used =
      let found : (u : U) × (IsUnknown same s u) × (n.unknown u ≡ w) = by_name.unknown_back same other tells tells' s t n names w used in
      ap (λ v. t.fits v (carried a v)) (sym found.2) ∙ ap (t.fits (n.unknown found.0)) (agrees_carried a found.0 found.1) ∙ names.fits found.0 (a found.0) found.1 (fa found.0 found.1)

  below_carried : (a b : U → V) → Fitting same s a → Fitting same s b → AllBelow same s a b → AllBelow other t (carried a) (carried b)
  below_carried a b fa fb ab w used =
      let found : (u : U) × (IsUnknown same s u) × (n.unknown u ≡ w) = by_name.unknown_back same other tells tells' s t n names w used in
      ap (λ v. t.leq v (carried a v) (carried b v)) (sym found.2)
      ∙ ap (λ x. t.leq (n.unknown found.0) x (carried b (n.unknown found.0))) (agrees_carried a found.0 found.1)
      ∙ ap (t.leq (n.unknown found.0) (n.value found.0 (a found.0))) (agrees_carried b found.0 found.1)
      ∙ names.leq found.0 (a found.0) (b found.0) found.1 (fa found.0 found.1) (fb found.0 found.1) ∙ ab found.0 found.1

  -- where two assignments have one value at each read, so have those by name
  alike_carried : (k : K) (a b : U → V) → IsKey same s k → ((u : U) → Reads same s k u → a u ≡ b u) → (w : W) → Reads other t (n.key k) w → carried a w ≡ carried b w
  alike_carried k a b known alike w read =
      let found : (u : U) × (Reads same s k u) × (n.unknown u ≡ w) = by_name.reads_back same other tells tells' s t n names k w known read in
      let used : IsUnknown same s found.0 = names.reads_used k found.0 known found.1 in
      ap (carried a) (sym found.2) ∙ agrees_carried a found.0 used ∙ ap (n.value found.0) (alike found.0 found.1) ∙ sym (agrees_carried b found.0 used) ∙ ap (carried b) found.2

  module _ (law' : IsMonotone other t) (faithful : IsFaithful same s n.value) where
    -- the same value by name is the same value
    own : (u : U) (a b : V) → IsUnknown same s u → Fits s u a → Fits s u b → n.value u a ≡ n.value u b → a ≡ b
    own u a b used fa fb e = faithful.own_value u a b used fa fb e

    there : (u : U) → IsUnknown same s u → IsUnknown other t (n.unknown u)
    there u used = by_name.unknown_there same other tells tells' s t n names u used

    associative_back : (u : U) (a b c : V) → IsUnknown same s u → Fits s u a → Fits s u b → Fits s u c → s.join u (s.join u a b) c ≡ s.join u a (s.join u b c)
    associative_back u a b c used fa fb fc =
        let fab : Fits s u (s.join u a b) = faithful.join_fits u a b used fa fb in
        let fbc : Fits s u (s.join u b c) = faithful.join_fits u b c used fb fc in
        own u (s.join u (s.join u a b) c) (s.join u a (s.join u b c)) used (faithful.join_fits u (s.join u a b) c used fab fc) (faithful.join_fits u a (s.join u b c) used fa fbc)
        (sym (names.join u (s.join u a b) c used fab fc)
        ∙ ap (λ x. t.join (n.unknown u) x (n.value u c)) (sym (names.join u a b used fa fb))
        ∙ law'.associative (n.unknown u) (n.value u a) (n.value u b) (n.value u c) (there u used) (names.fits u a used fa) (names.fits u b used fb) (names.fits u c used fc)
        ∙ ap (t.join (n.unknown u) (n.value u a)) (names.join u b c used fb fc)
        ∙ names.join u a (s.join u b c) used fa fbc)

    monotone_at : (k : K) (a b : U → V) → IsKey same s k → Fitting same s a → Fitting same s b → AllBelow same s a b → s.leq (s.target k) (s.eval k a) (s.eval k b) ≡ true
    monotone_at k a b known fa fb ab =
        sym (names.leq (s.target k) (s.eval k a) (s.eval k b) (names.target_used k known) (faithful.eval_fits k a known fa) (faithful.eval_fits k b known fb))
        ∙ ap (λ x. t.leq (n.unknown (s.target k)) x (n.value (s.target k) (s.eval k b))) (sym (names.eval k a (carried a) known fa (agrees_carried a)))
        ∙ ap (t.leq (n.unknown (s.target k)) (t.eval (n.key k) (carried a))) (sym (names.eval k b (carried b) known fb (agrees_carried b)))
        ∙ ap (λ w. t.leq w (t.eval (n.key k) (carried a)) (t.eval (n.key k) (carried b))) (sym (names.target k known))
        ∙ law'.eval_monotone (n.key k) (carried a) (carried b) (by_name.key_there same other tells tells' s t n names k known) (fits_carried a fa) (fits_carried b fb) (below_carried a b fa fb ab)

    reads_at : (k : K) (a b : U → V) → IsKey same s k → Fitting same s a → Fitting same s b → ((u : U) → Reads same s k u → a u ≡ b u) → s.eval k a ≡ s.eval k b
    reads_at k a b known fa fb alike =
        own (s.target k) (s.eval k a) (s.eval k b) (names.target_used k known) (faithful.eval_fits k a known fa) (faithful.eval_fits k b known fb)
        (sym (names.eval k a (carried a) known fa (agrees_carried a))
        ∙ law'.eval_reads (n.key k) (carried a) (carried b) (by_name.key_there same other tells tells' s t n names k known) (fits_carried a fa) (fits_carried b fb) (alike_carried k a b known alike)
        ∙ names.eval k b (carried b) known fb (agrees_carried b))

    pub monotone_back : IsMonotone same s
    monotone_back = record {
      keys_once = distinct-map_back same.key other.key tells.keys tells'.keys n.key s.keys (ap (distinct other.key) names.keys ∙ law'.keys_once);
      target_used = names.target_used;
      reads_used = names.reads_used;
      bottom_fits = faithful.bottom_fits;
      join_fits = faithful.join_fits;
      eval_fits = faithful.eval_fits;
      leq_join = λ u a b used fa fb h. own u (s.join u a b) b used (faithful.join_fits u a b used fa fb) fb
          (sym (names.join u a b used fa fb) ∙ law'.leq_join (n.unknown u) (n.value u a) (n.value u b) (there u used) (names.fits u a used fa) (names.fits u b used fb) (names.leq u a b used fa fb ∙ h));
      join_leq = λ u a b used fa fb h. sym (names.leq u a b used fa fb)
          ∙ law'.join_leq (n.unknown u) (n.value u a) (n.value u b) (there u used) (names.fits u a used fa) (names.fits u b used fb) (names.join u a b used fa fb ∙ ap (n.value u) h);
      idempotent = λ u a used fa. own u (s.join u a a) a used (faithful.join_fits u a a used fa fa) fa
          (sym (names.join u a a used fa fa) ∙ law'.idempotent (n.unknown u) (n.value u a) (there u used) (names.fits u a used fa));
      commutative = λ u a b used fa fb. own u (s.join u a b) (s.join u b a) used (faithful.join_fits u a b used fa fb) (faithful.join_fits u b a used fb fa)
          (sym (names.join u a b used fa fb) ∙ law'.commutative (n.unknown u) (n.value u a) (n.value u b) (there u used) (names.fits u a used fa) (names.fits u b used fb) ∙ names.join u b a used fb fa);
      associative = associative_back;
      neutral = λ u a used fa. own u (s.join u (s.bottom u) a) a used (faithful.join_fits u (s.bottom u) a used (faithful.bottom_fits u used) fa) fa
          (sym (names.join u (s.bottom u) a used (faithful.bottom_fits u used) fa) ∙ ap (λ x. t.join (n.unknown u) x (n.value u a)) (sym (names.bottom u used)) ∙ law'.neutral (n.unknown u) (n.value u a) (there u used) (names.fits u a used fa));
      eval_monotone = monotone_at;
      eval_reads = reads_at;
    }

  pub ranks_back : HasNamedRanks same other s t n → AreRanks other t → AreRanks same s
  ranks_back ranks law' =
      let used_there : (u : U) → IsUnknown same s u → IsUnknown other t (n.unknown u) = λ u used. by_name.unknown_there same other tells tells' s t n names u used in
      record {
        rank_within = λ u a used fa. omega (arith, law'.rank_within (n.unknown u) (n.value u a) (used_there u used) (names.fits u a used fa), ranks.height u used, ranks.rank u a used fa);
        rank_rises = λ u a b used fa fb below strict. omega (
          arith,
          law'.rank_rises (n.unknown u) (n.value u a) (n.value u b) (used_there u used) (names.fits u a used fa) (names.fits u b used fb) (names.leq u a b used fa fb ∙ below) (names.leq u b a used fb fa ∙ strict),
          ranks.rank u a used fa,
          ranks.rank u b used fb,
        );
      }
