-- A system under numbers is the system by name.
use Rattle.std.proofs.Common.{◌≡◌, ℕ, true, List, [], ◌∷◌, refl, sym, ap, ◌∙◌}
use Rattle.std.specs.Prelude.{map, nat_eq}
use Rattle.std.proofs.lemmas.Bool.{or_left, or_right}
use Rattle.list_theory.specs.Lists.{has}
use Rattle.list_theory.proofs.NumberLemmas.{numbers_exact}
use Rattle.constraint_theory.specs.Systems.{ConstraintSystem, Equality, IsEquality, IsMonotone, IsLawful, Fitting, IsKey, IsUnknown, numbers}
use Rattle.constraint_theory.proofs.NumberLemmas.{numbers_tell}
use Rattle.constraint_names.specs.Naming.{IsNamed, IsFaithful, HasNamedRanks, Agrees}
use Rattle.constraint_names.specs.Numbering.{Numbering, IsNumbering, names_of, numbered}
use Rattle.constraint_names.proofs.MapLemmas.{has-map, has-map_back}
use Rattle.constraint_names.proofs.BackLemmas as back

module _ {L W X : Type 0} (other : Equality L W) (tells' : IsEquality other) (t : ConstraintSystem L W X) (n : Numbering L W) (law : IsMonotone other t) (numbering : IsNumbering t n) where
  pub key_known : (k : ℕ) → has nat_eq n.keys k ≡ true → IsKey other t (n.key k)
  key_known k known = ap (λ ls. has other.key ls (n.key k)) (sym numbering.keys) ∙ has-map nat_eq other.key numbers_exact tells'.keys n.key n.keys k known

  pub unknown_used : (u : ℕ) → has nat_eq n.unknowns u ≡ true → IsUnknown other t (n.unknown u)
  unknown_used u used = ap (λ ws. has other.unknown ws (n.unknown u)) (sym numbering.unknowns) ∙ has-map nat_eq other.unknown numbers_exact tells'.unknowns n.unknown n.unknowns u used

  -- the number of an unknown is in use, and names it
  pub numbered_back : (w : W) → IsUnknown other t w → (has nat_eq n.unknowns (n.number w) ≡ true) × (n.unknown (n.number w) ≡ w)
  numbered_back w used =
      let found : (u : ℕ) × (has nat_eq n.unknowns u ≡ true) × (n.unknown u ≡ w) = has-map_back nat_eq other.unknown numbers_exact tells'.unknowns n.unknown n.unknowns w (ap (λ ws. has other.unknown ws w) numbering.unknowns ∙ used) in
      let number : n.number w ≡ found.0 = ap n.number (sym found.2) ∙ numbering.number found.0 found.1 in
      (ap (has nat_eq n.unknowns) number ∙ found.1, ap n.unknown number ∙ found.2)

  names_again : (ws : List W) → ((w : W) → has other.unknown ws w ≡ true → IsUnknown other t w) → map n.unknown (map n.number ws) ≡ ws
  names_again [] all = refl
  names_again (w ∷ ws) all =
      ap (λ v. v ∷ map n.unknown (map n.number ws)) (numbered_back w (all w (or_left (other.unknown w w) (has other.unknown ws w) (tells'.unknowns.itself w)))).1
      ∙ ap (λ vs. w ∷ vs) (names_again ws (λ v h. all v (or_right (other.unknown w v) (has other.unknown ws v) h)))

  -- an assignment by number, and one that agrees with it, fit by name
  pub fits_numbered : (a : ℕ → X) → Fitting numbers (numbered t n) a → Fitting other t (λ w. a (n.number w))
  fits_numbered a fa w used = let found : (has nat_eq n.unknowns (n.number w) ≡ true) × (n.unknown (n.number w) ≡ w) = numbered_back w used in
      ap (λ v. t.fits v (a (n.number w))) (sym found.1) ∙ fa (n.number w) found.0

  agrees_numbered : (a : ℕ → X) (b : W → X) → Agrees numbers other (numbered t n) t (names_of n) a b → (w : W) → IsUnknown other t w → b w ≡ a (n.number w)
  agrees_numbered a b agree w used = let found : (has nat_eq n.unknowns (n.number w) ≡ true) × (n.unknown (n.number w) ≡ w) = numbered_back w used in
      ap b (sym found.1) ∙ agree (n.number w) found.0

  fits_agreeing : (a : ℕ → X) (b : W → X) → Fitting numbers (numbered t n) a → Agrees numbers other (numbered t n) t (names_of n) a b → Fitting other t b
  fits_agreeing a b fa agree w used = ap (t.fits w) (agrees_numbered a b agree w used) ∙ fits_numbered a fa w used

  pub numbered_named : IsNamed numbers other (numbered t n) t (names_of n)
  numbered_named = record {
    keys = numbering.keys;
    unknowns = numbering.unknowns;
    own_key = numbering.own_key;
    own_unknown = λ u v used used' e. sym (numbering.number u used) ∙ ap n.number e ∙ numbering.number v used';
    target_used = λ k known. (numbered_back (t.target (n.key k)) (law.target_used (n.key k) (key_known k known))).0;
    reads_used = λ k u known read.
        let found : (w : W) × (has other.unknown (t.reads (n.key k)) w ≡ true) × (n.number w ≡ u) = has-map_back other.unknown nat_eq tells'.unknowns numbers_exact n.number (t.reads (n.key k)) u read in
        ap (has nat_eq n.unknowns) (sym found.2) ∙ (numbered_back found.0 (law.reads_used (n.key k) found.0 (key_known k known) found.1)).0;
    target = λ k known. sym (numbered_back (t.target (n.key k)) (law.target_used (n.key k) (key_known k known))).1;
    reads = λ k w known. ap (λ ws. has other.unknown ws w) (sym (names_again (t.reads (n.key k)) (λ v read. law.reads_used (n.key k) v (key_known k known) read)));
    fits = λ u a used fa. fa;
    bottom = λ u used. refl;
    join = λ u a b used fa fb. refl;
    leq = λ u a b used fa fb. refl;
    eval = λ k a b known fa agree. law.eval_reads (n.key k) b (λ w. a (n.number w)) (key_known k known) (fits_agreeing a b fa agree) (fits_numbered a fa) (λ w read. agrees_numbered a b agree w (law.reads_used (n.key k) w (key_known k known) read));
  }

  numbered_faithful : IsFaithful numbers (numbered t n) (λ _ v. v)
  numbered_faithful = record {
    bottom_fits = λ u used. law.bottom_fits (n.unknown u) (unknown_used u used);
    join_fits = λ u a b used fa fb. law.join_fits (n.unknown u) a b (unknown_used u used) fa fb;
    eval_fits = λ k a known fa. ap (λ w. t.fits w (t.eval (n.key k) (λ v. a (n.number v)))) (numbered_back (t.target (n.key k)) (law.target_used (n.key k) (key_known k known))).1
        ∙ law.eval_fits (n.key k) (λ v. a (n.number v)) (key_known k known) (fits_numbered a fa);
    own_value = λ u a b used fa fb e. e;
  }

  pub ranks_named : HasNamedRanks numbers other (numbered t n) t (names_of n)
  ranks_named = record { height = λ u used. refl; rank = λ u a used fa. refl }

  pub numbered_monotone : IsMonotone numbers (numbered t n)
  numbered_monotone = back.monotone_back numbers other numbers_tell tells' (numbered t n) t (names_of n) numbered_named law numbered_faithful

module _ {L W X : Type 0} (other : Equality L W) (tells' : IsEquality other) (t : ConstraintSystem L W X) (n : Numbering L W) (law : IsLawful other t) (numbering : IsNumbering t n) where
  pub numbered_lawful : IsLawful numbers (numbered t n)
  numbered_lawful = record {
    monotone = numbered_monotone other tells' t n law.monotone numbering;
    ranks = back.ranks_back numbers other numbers_tell tells' (numbered t n) t (names_of n) (numbered_named other tells' t n law.monotone numbering) (ranks_named other tells' t n law.monotone numbering) law.ranks;
  }
