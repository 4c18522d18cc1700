-- The edits of a session keep its moments sound.
use Rattle.std.proofs.Common.{◌≡◌, Bool, true, false, not, ◌||◌, inl, inr, List, refl, sym, ap, subst, ◌∙◌}
use Rattle.std.specs.Prelude.{◌&&◌, filter}
use Rattle.std.proofs.lemmas.Bool.{and_from, and_parts, or_cases, or_right, cases_Bool, both_ways, false_from_ne_true, not-true, not_from_false}
use Rattle.list_theory.specs.Lists.{has, IsExact}
use Rattle.list_theory.proofs.ListLemmas.{has-filter, has-filter_from}
use Rattle.constraint_theory.specs.Systems.{Equality, IsEquality, ConstraintSystem, IsMonotone}
use Rattle.constraint_theory.specs.Machine.{IsSound}
use Rattle.constraint_theory.specs.Edits.{IsEdit}
use Rattle.constraint_theory.proofs.LeastLemmas as theory
use Rattle.constraint_theory.proofs.EditLemmas as edits
use Rattle.session_theory.specs.Moments.{Moment, IsSoundMoment, Repairs, Restarts, change_between}
use Rattle.session_theory.specs.Laws.{AreSystems, MeanTheSame}

-- two tests are the same where each holds where the other does
alike : (a b : Bool) → (a ≡ true → b ≡ true) → (b ≡ true → a ≡ true) → a ≡ b
alike true b f g = sym (f refl)
alike false true f g = g refl
alike false false f g = refl

-- of two lists: what is in the first and not in the second
module _ {A : Type 0} (same : A → A → Bool) (ex : IsExact same) (xs ys : List A) where
  gone : List A
  gone = filter (λ x. not (has same ys x)) xs

  gone_from : (x : A) → has same (filter (λ x. not (has same ys x)) xs) x ≡ true → (has same xs x ≡ true) × (has same ys x ≡ false)
  gone_from x h = let i : (has same xs x ≡ true) × (not (has same ys x) ≡ true) = has-filter same ex (λ z. not (has same ys z)) xs x h in (i.0, not-true (has same ys x) i.1)

  gone_at : (x : A) → has same xs x ≡ true → has same ys x ≡ false → has same (filter (λ x. not (has same ys x)) xs) x ≡ true
  gone_at x h n = has-filter_from same ex (λ z. not (has same ys z)) xs x h (not_from_false (has same ys x) n)

  -- what stays is in both
  stays_both : (x : A) → (has same xs x && not (has same (filter (λ x. not (has same ys x)) xs) x)) ≡ true → (has same xs x ≡ true) × (has same ys x ≡ true)
  stays_both x h =
      let i : (has same xs x ≡ true) × (not (has same (filter (λ z. not (has same ys z)) xs) x) ≡ true) = and_parts (has same xs x) (not (has same (filter (λ z. not (has same ys z)) xs) x)) h in
      (i.0, elim (cases_Bool (has same ys x)) [ inl e ↦ e | inr e ↦ absurd (both_ways (has same (filter (λ z. not (has same ys z)) xs) x) (not-true (has same (filter (λ z. not (has same ys z)) xs) x) i.1) (gone_at x i.0 e)) ])

  both_stay : (x : A) → has same xs x ≡ true → has same ys x ≡ true → (has same xs x && not (has same (filter (λ x. not (has same ys x)) xs) x)) ≡ true
  both_stay x h k = and_from (has same xs x) (not (has same (filter (λ z. not (has same ys z)) xs) x)) h (not_from_false (has same (filter (λ z. not (has same ys z)) xs) x) (false_from_ne_true (has same (filter (λ z. not (has same ys z)) xs) x) (λ g. both_ways (has same ys x) (gone_from x g).1 k)))

-- what is in the second list stays or is added
module _ {A : Type 0} (same : A → A → Bool) (ex : IsExact same) (xs ys : List A) where
  in_new : (x : A) → has same ys x ≡ ((has same xs x && not (has same (filter (λ z. not (has same ys z)) xs) x)) || has same (filter (λ z. not (has same xs z)) ys) x)
  in_new x = alike (has same ys x) ((has same xs x && not (has same (filter (λ z. not (has same ys z)) xs) x)) || has same (filter (λ z. not (has same xs z)) ys) x)
      (λ h. elim (cases_Bool (has same xs x)) [
        | inl e ↦ rw (both_stay same ex xs ys x e h) refl
        | inr e ↦ or_right (has same xs x && not (has same (filter (λ z. not (has same ys z)) xs) x)) (has same (filter (λ z. not (has same xs z)) ys) x) (gone_at same ex ys xs x h e)
      ])
      (λ h. elim (or_cases (has same xs x && not (has same (filter (λ z. not (has same ys z)) xs) x)) (has same (filter (λ z. not (has same xs z)) ys) x) h) [
        | inl e ↦ (stays_both same ex xs ys x e).1
        | inr e ↦ (gone_from same ex ys xs x e).0
      ])

module _ {T K U V : Type 0} (same : Equality K U) (tells : IsEquality same) (IsSystemOf : T → ConstraintSystem K U V → Type 0) (systems : AreSystems same IsSystemOf) where
  pub restart_sound : (m next : Moment T K) (new : T) → Restarts same IsSystemOf m new next → IsSoundMoment same IsSystemOf next
  restart_sound m next new begins = subst (λ (x : Moment T K). IsSoundMoment same IsSystemOf x) (sym begins.is) (record {
    system = begins.system;
    of_tree = begins.of_tree;
    sound = theory.sound_begin same tells begins.system (systems.lawful new begins.system begins.of_tree).monotone;
  })

  module _ (alike_all : MeanTheSame same IsSystemOf) where
    -- the change between the systems of two trees is an edit
    is_edit : (t t' : T) (s s' : ConstraintSystem K U V) → IsSystemOf t s → IsSystemOf t' s' → IsEdit same s s' (change_between same IsSystemOf s s')
    is_edit t t' s s' of_t of_t' =
        let law : IsMonotone same s = (systems.lawful t s of_t).monotone in
        let law' : IsMonotone same s' = (systems.lawful t' s' of_t').monotone in
        record {
          lists = record {
            keys = λ k. in_new same.key tells.keys s.keys s'.keys k;
            unknowns = λ u. in_new same.unknown tells.unknowns s.unknowns s'.unknowns u;
            keys_new = λ k h. (gone_from same.key tells.keys s'.keys s.keys k h).1;
            unknowns_new = λ u h. (gone_from same.unknown tells.unknowns s'.unknowns s.unknowns u h).1;
            gone_known = λ k h. (gone_from same.key tells.keys s.keys s'.keys k h).0;
          };
          target_stays = λ k h.
              let b : (has same.key s.keys k ≡ true) × (has same.key s'.keys k ≡ true) = stays_both same.key tells.keys s.keys s'.keys k h in
              both_stay same.unknown tells.unknowns s.unknowns s'.unknowns (s.target k) (law.target_used k b.0) (subst (λ u. has same.unknown s'.unknowns u ≡ true) (alike_all.target t t' s s' of_t of_t' k) (law'.target_used k b.1));
          reads_stay = λ k u h read.
              let b : (has same.key s.keys k ≡ true) × (has same.key s'.keys k ≡ true) = stays_both same.key tells.keys s.keys s'.keys k h in
              both_stay same.unknown tells.unknowns s.unknowns s'.unknowns u (law.reads_used k u b.0 read) (law'.reads_used k u b.1 (subst (λ us. has same.unknown us u ≡ true) (sym (alike_all.reads t t' s s' of_t of_t' k)) read));
          same_target = λ k _. alike_all.target t t' s s' of_t of_t' k;
          same_reads = λ k u _. ap (λ us. has same.unknown us u) (alike_all.reads t t' s s' of_t of_t' k);
          bottom_movable = λ _ _. refl;
          join_movable = λ _ _ _ _ _ _ _ _. refl;
          eval_movable = λ _ _ _ _ _. refl;
          shift_bottom = λ u _. alike_all.bottom t t' s s' of_t of_t' u;
          shift_join = λ u a b _ _ _ _ _ _ _. sym (alike_all.join t t' s s' of_t of_t' u a b);
          shift_leq = λ u a b _ _ _ _ _ _ _ h. alike_all.leq t t' s s' of_t of_t' u a b ∙ h;
          shift_eval = λ k a b h fits fits' _ reads.
              let both : (has same.key s.keys k ≡ true) × (has same.key s'.keys k ≡ true) = stays_both same.key tells.keys s.keys s'.keys k h in
              alike_all.eval t t' s s' of_t of_t' k a b both.0 both.1 fits fits' reads;
        }

    pub repair_sound : (m next : Moment T K) (new : T) → IsSoundMoment same IsSystemOf m → Repairs same IsSystemOf m new next → IsSoundMoment same IsSystemOf next
    repair_sound m next new sound r = subst (λ (x : Moment T K). IsSoundMoment same IsSystemOf x) (sym r.is) (record {
      system = r.new;
      of_tree = r.of_new;
      sound = edits.sound_edited same tells r.old r.new (change_between same IsSystemOf r.old r.new) (systems.lawful m.tree r.old r.of_old).monotone (systems.lawful new r.new r.of_new).monotone (is_edit m.tree new r.old r.new r.of_old r.of_new) r.taint m.state
          (subst (λ (x : ConstraintSystem K U V). IsSound same x m.state) (systems.one m.tree sound.system r.old sound.of_tree r.of_old) sound.sound) r.tainted.0;
    })
