-- What is an edit by name is one.
use Rattle.std.proofs.Common.{◌≡◌, Bool, true, false, not, ◌&&◌, refl, sym, ap, ◌∙◌}
use Rattle.std.proofs.lemmas.Bool.{true≢false, and_parts, or_left}
use Rattle.list_theory.specs.Lists.{has}
use Rattle.constraint_theory.specs.Systems.{ConstraintSystem, Equality, IsEquality, IsMonotone, Fits, Fitting, IsKey, IsUnknown, Reads}
use Rattle.constraint_theory.specs.Edits.{Change, IsEdit, Movable, stays, unknown_stays}
use Rattle.constraint_names.specs.Naming.{Naming, IsNamed}
use Rattle.constraint_names.specs.NamedEdits.{IsNamedChange}
use Rattle.constraint_names.proofs.NamingLemmas as by_name
use Rattle.constraint_names.proofs.BackLemmas as back

-- two tests of which each is true where the other is
pub both_tests : (x y : Bool) → (x ≡ true → y ≡ true) → (y ≡ true → x ≡ true) → x ≡ y
both_tests true true f g = refl
both_tests true false f g = absurd (true≢false (sym (f refl)))
both_tests false true f g = absurd (true≢false (sym (g refl)))
both_tests false false f g = refl

module _ {K U V L W X : Type 0} (same : Equality K U) (other : Equality L W) (tells : IsEquality same) (tells' : IsEquality other) (s s' : ConstraintSystem K U V) (t t' : ConstraintSystem L W X) (n n' : Naming K U V L W X) (e : Change K U V) (f : Change L W X) (law : IsMonotone same s) (law' : IsMonotone same s') (names : IsNamed same other s t n) (names' : IsNamed same other s' t' n') (change : IsNamedChange same other s s' t t' n n' e f) (edit' : IsEdit other t t' f) where
  known : (k : K) → stays same s s' e k ≡ true → IsKey same s k
  known k here = (and_parts (has same.key s.keys k) (not (has same.key e.gone k)) here).0

  used : (u : U) → unknown_stays same s s' e u ≡ true → IsUnknown same s u
  used u here = (and_parts (has same.unknown s.unknowns u) (not (has same.unknown e.gone_unknowns u)) here).0

  known_after : (k : K) → stays same s s' e k ≡ true → IsKey same s' k
  known_after k here = change.lists.keys k ∙ or_left (stays same s s' e k) (has same.key e.added k) here

  used_after : (u : U) → unknown_stays same s s' e u ≡ true → IsUnknown same s' u
  used_after u here = change.lists.unknowns u ∙ or_left (unknown_stays same s s' e u) (has same.unknown e.added_unknowns u) here

  -- a key and an unknown in use stay where they do by name
  pub stays_named : (k : K) → IsKey same s k → stays other t t' f (n.key k) ≡ stays same s s' e k
  stays_named k here =
      ap (λ b. b && not (has other.key f.gone (n.key k))) (by_name.key_there same other tells tells' s t n names k here ∙ sym here)
      ∙ ap (λ b. has same.key s.keys k && not b) (change.gone k here)

  pub unknown_stays_named : (u : U) → IsUnknown same s u → unknown_stays other t t' f (n.unknown u) ≡ unknown_stays same s s' e u
  unknown_stays_named u here =
      ap (λ b. b && not (has other.unknown f.gone_unknowns (n.unknown u))) (by_name.unknown_there same other tells tells' s t n names u here ∙ sym here)
      ∙ ap (λ b. has same.unknown s.unknowns u && not b) (change.gone_unknowns u here)

  there : (k : K) → stays same s s' e k ≡ true → stays other t t' f (n.key k) ≡ true
  there k here = stays_named k (known k here) ∙ here

  unknown_there : (u : U) → unknown_stays same s s' e u ≡ true → unknown_stays other t t' f (n.unknown u) ≡ true
  unknown_there u here = unknown_stays_named u (used u here) ∙ here

  target_stays : (k : K) → stays same s s' e k ≡ true → unknown_stays same s s' e (s.target k) ≡ true
  target_stays k here =
      sym (unknown_stays_named (s.target k) (names.target_used k (known k here)))
      ∙ ap (unknown_stays other t t' f) (sym (names.target k (known k here))) ∙ edit'.target_stays (n.key k) (there k here)

  reads_stay : (k : K) (u : U) → stays same s s' e k ≡ true → Reads same s k u → unknown_stays same s s' e u ≡ true
  reads_stay k u here read =
      let in_use : IsUnknown same s u = names.reads_used k u (known k here) read in
      sym (unknown_stays_named u in_use) ∙ edit'.reads_stay (n.key k) (n.unknown u) (there k here) (by_name.reads_named same other tells tells' s t n names k u (known k here) in_use ∙ read)

  same_target : (k : K) → stays same s s' e k ≡ true → s'.target k ≡ s.target k
  same_target k here =
      names'.own_unknown (s'.target k) (s.target k) (names'.target_used k (known_after k here)) (used_after (s.target k) (target_stays k here))
      (sym (names'.target k (known_after k here)) ∙ ap t'.target (change.same_key k here) ∙ edit'.same_target (n.key k) (there k here) ∙ names.target k (known k here) ∙ sym (change.same_unknown (s.target k) (target_stays k here)))

  -- reads after the edit are, by name, those before it
  reads_across : (k : K) (w : W) → stays same s s' e k ≡ true → has other.unknown (t'.reads (n'.key k)) w ≡ has other.unknown (t.reads (n.key k)) w
  reads_across k w here = ap (λ l. has other.unknown (t'.reads l) w) (change.same_key k here) ∙ edit'.same_reads (n.key k) w (there k here)

  read_before : (k : K) (u : U) → stays same s s' e k ≡ true → Reads same s' k u → Reads same s k u
  read_before k u here read =
      let in_use : IsUnknown same s' u = names'.reads_used k u (known_after k here) read in
      let read_by_name : Reads other t (n.key k) (n'.unknown u) = sym (reads_across k (n'.unknown u) here) ∙ by_name.reads_named same other tells tells' s' t' n' names' k u (known_after k here) in_use ∙ read in
      let found : (v : U) × (Reads same s k v) × (n.unknown v ≡ n'.unknown u) = by_name.reads_back same other tells tells' s t n names k (n'.unknown u) (known k here) read_by_name in
      let here_too : unknown_stays same s s' e found.0 ≡ true = reads_stay k found.0 here found.1 in
      ap (has same.unknown (s.reads k)) (sym (names'.own_unknown found.0 u (used_after found.0 here_too) in_use (change.same_unknown found.0 here_too ∙ found.2))) ∙ found.1

  read_after : (k : K) (u : U) → stays same s s' e k ≡ true → Reads same s k u → Reads same s' k u
  read_after k u here read =
      let here_too : unknown_stays same s s' e u ≡ true = reads_stay k u here read in
      sym (by_name.reads_named same other tells tells' s' t' n' names' k u (known_after k here) (used_after u here_too))
      ∙ ap (has other.unknown (t'.reads (n'.key k))) (change.same_unknown u here_too) ∙ reads_across k (n.unknown u) here
      ∙ by_name.reads_named same other tells tells' s t n names k u (known k here) (used u here_too) ∙ read

  -- values that can be renamed can be by name
  movable_there : (u : U) (a : V) → unknown_stays same s s' e u ≡ true → Fits s u a → Movable e a → Movable f (n.value u a)
  movable_there u a here fa m = change.movable u a here fa ∙ m

  movable_reads : (k : K) (a : U → V) → stays same s s' e k ≡ true → Fitting same s a → ((u : U) → Reads same s k u → Movable e (a u)) → (w : W) → Reads other t (n.key k) w → Movable f (back.carried same other tells tells' s t n names a w)
  movable_reads k a here fa m w read =
      let found : (u : U) × (Reads same s k u) × (n.unknown u ≡ w) = by_name.reads_back same other tells tells' s t n names k w (known k here) read in
      let in_use : IsUnknown same s found.0 = names.reads_used k found.0 (known k here) found.1 in
      ap (λ v. f.movable (back.carried same other tells tells' s t n names a v)) (sym found.2) ∙ ap f.movable (back.agrees_carried same other tells tells' s t n names a found.0 in_use)
      ∙ movable_there found.0 (a found.0) (reads_stay k found.0 here found.1) (fa found.0 in_use) (m found.0 found.1)

  join_movable : (u : U) (a b : V) → unknown_stays same s s' e u ≡ true → Fits s u a → Fits s u b → Movable e a → Movable e b → Movable e (s.join u a b)
  join_movable u a b here fa fb ma mb =
      sym (change.movable u (s.join u a b) here (law.join_fits u a b (used u here) fa fb)) ∙ ap f.movable (sym (names.join u a b (used u here) fa fb))
      ∙ edit'.join_movable (n.unknown u) (n.value u a) (n.value u b) (unknown_there u here) (names.fits u a (used u here) fa) (names.fits u b (used u here) fb) (movable_there u a here fa ma) (movable_there u b here fb mb)

  eval_movable : (k : K) (a : U → V) → stays same s s' e k ≡ true → Fitting same s a → ((u : U) → Reads same s k u → Movable e (a u)) → Movable e (s.eval k a)
  eval_movable k a here fa m =
      sym (change.movable (s.target k) (s.eval k a) (target_stays k here) (law.eval_fits k a (known k here) fa))
      ∙ ap f.movable (sym (names.eval k a (back.carried same other tells tells' s t n names a) (known k here) fa (back.agrees_carried same other tells tells' s t n names a)))
      ∙ edit'.eval_movable (n.key k) (back.carried same other tells tells' s t n names a) (there k here) (back.fits_carried same other tells tells' s t n names a fa) (movable_reads k a here fa m)

  bottom_movable : (u : U) → unknown_stays same s s' e u ≡ true → Movable e (s.bottom u)
  bottom_movable u here =
      sym (change.movable u (s.bottom u) here (law.bottom_fits u (used u here))) ∙ ap f.movable (sym (names.bottom u (used u here))) ∙ edit'.bottom_movable (n.unknown u) (unknown_there u here)

  -- the renamed value, where it fits, stands for the renamed value
  shifted : (u : U) (a : V) → unknown_stays same s s' e u ≡ true → Fits s u a → Movable e a → Fits s' u (e.shift a) → n'.value u (e.shift a) ≡ f.shift (n.value u a)
  shifted u a here fa ma fs = (change.shift u a (e.shift a) here fa ma fs).1 refl

  fits_shifted : (u : U) (a : V) → unknown_stays same s s' e u ≡ true → Fits s u a → Movable e a → Fits s' u (e.shift a) → Fits t' (n.unknown u) (f.shift (n.value u a))
  fits_shifted u a here fa ma fs =
      ap (λ w. t'.fits w (f.shift (n.value u a))) (sym (change.same_unknown u here)) ∙ ap (t'.fits (n'.unknown u)) (sym (shifted u a here fa ma fs)) ∙ names'.fits u (e.shift a) (used_after u here) fs

  shift_bottom : (u : U) → unknown_stays same s s' e u ≡ true → s'.bottom u ≡ e.shift (s.bottom u)
  shift_bottom u here =
      (change.shift u (s.bottom u) (s'.bottom u) here (law.bottom_fits u (used u here)) (bottom_movable u here) (law'.bottom_fits u (used_after u here))).0
      (sym (names'.bottom u (used_after u here)) ∙ ap t'.bottom (change.same_unknown u here) ∙ edit'.shift_bottom (n.unknown u) (unknown_there u here) ∙ ap f.shift (names.bottom u (used u here)))

  shift_join : (u : U) (a b : V) → unknown_stays same s s' e u ≡ true → Fits s u a → Fits s u b → Movable e a → Movable e b → Fits s' u (e.shift a) → Fits s' u (e.shift b) → e.shift (s.join u a b) ≡ s'.join u (e.shift a) (e.shift b)
  shift_join u a b here fa fb ma mb fsa fsb =
      sym ((change.shift u (s.join u a b) (s'.join u (e.shift a) (e.shift b)) here (law.join_fits u a b (used u here) fa fb) (join_movable u a b here fa fb ma mb) (law'.join_fits u (e.shift a) (e.shift b) (used_after u here) fsa fsb)).0
      (sym (names'.join u (e.shift a) (e.shift b) (used_after u here) fsa fsb)
      ∙ ap (λ w. t'.join w (n'.value u (e.shift a)) (n'.value u (e.shift b))) (change.same_unknown u here)
      ∙ ap (λ x. t'.join (n.unknown u) x (n'.value u (e.shift b))) (shifted u a here fa ma fsa)
      ∙ ap (t'.join (n.unknown u) (f.shift (n.value u a))) (shifted u b here fb mb fsb)
      ∙ sym (edit'.shift_join (n.unknown u) (n.value u a) (n.value u b) (unknown_there u here) (names.fits u a (used u here) fa) (names.fits u b (used u here) fb) (movable_there u a here fa ma) (movable_there u b here fb mb) (fits_shifted u a here fa ma fsa) (fits_shifted u b here fb mb fsb))
      ∙ ap f.shift (names.join u a b (used u here) fa fb)))

  shift_leq : (u : U) (a b : V) → unknown_stays same s s' e u ≡ true → Fits s u a → Fits s u b → Movable e a → Movable e b → Fits s' u (e.shift a) → Fits s' u (e.shift b) → s.leq u a b ≡ true → s'.leq u (e.shift a) (e.shift b) ≡ true
  shift_leq u a b here fa fb ma mb fsa fsb below =
      sym (names'.leq u (e.shift a) (e.shift b) (used_after u here) fsa fsb)
      ∙ ap (λ w. t'.leq w (n'.value u (e.shift a)) (n'.value u (e.shift b))) (change.same_unknown u here)
      ∙ ap (λ x. t'.leq (n.unknown u) x (n'.value u (e.shift b))) (shifted u a here fa ma fsa)
      ∙ ap (t'.leq (n.unknown u) (f.shift (n.value u a))) (shifted u b here fb mb fsb)
      ∙ edit'.shift_leq (n.unknown u) (n.value u a) (n.value u b) (unknown_there u here) (names.fits u a (used u here) fa) (names.fits u b (used u here) fb) (movable_there u a here fa ma) (movable_there u b here fb mb) (fits_shifted u a here fa ma fsa) (fits_shifted u b here fb mb fsb)
      (names.leq u a b (used u here) fa fb ∙ below)

  shifted_reads : (k : K) (a b : U → V) → stays same s s' e k ≡ true → Fitting same s a → Fitting same s' b → ((u : U) → Reads same s k u → Movable e (a u)) → ((u : U) → Reads same s k u → b u ≡ e.shift (a u)) → (w : W) → Reads other t (n.key k) w → back.carried same other tells tells' s' t' n' names' b w ≡ f.shift (back.carried same other tells tells' s t n names a w)
  shifted_reads k a b here fa fb ma moved w read =
      let found : (u : U) × (Reads same s k u) × (n.unknown u ≡ w) = by_name.reads_back same other tells tells' s t n names k w (known k here) read in
      let stay : unknown_stays same s s' e found.0 ≡ true = reads_stay k found.0 here found.1 in
      ap (back.carried same other tells tells' s' t' n' names' b) (sym found.2 ∙ sym (change.same_unknown found.0 stay))
      ∙ back.agrees_carried same other tells tells' s' t' n' names' b found.0 (used_after found.0 stay)
      ∙ (change.shift found.0 (a found.0) (b found.0) stay (fa found.0 (used found.0 stay)) (ma found.0 found.1) (fb found.0 (used_after found.0 stay))).1 (moved found.0 found.1)
      ∙ ap f.shift (sym (back.agrees_carried same other tells tells' s t n names a found.0 (used found.0 stay)) ∙ ap (back.carried same other tells tells' s t n names a) found.2)

  shift_eval : (k : K) (a b : U → V) → stays same s s' e k ≡ true → Fitting same s a → Fitting same s' b → ((u : U) → Reads same s k u → Movable e (a u)) → ((u : U) → Reads same s k u → b u ≡ e.shift (a u)) → s'.eval k b ≡ e.shift (s.eval k a)
  shift_eval k a b here fa fb ma moved =
      let aims : unknown_stays same s s' e (s.target k) ≡ true = target_stays k here in
      let fits : Fits s' (s.target k) (s'.eval k b) = ap (λ u. s'.fits u (s'.eval k b)) (sym (same_target k here)) ∙ law'.eval_fits k b (known_after k here) fb in
      (change.shift (s.target k) (s.eval k a) (s'.eval k b) aims (law.eval_fits k a (known k here) fa) (eval_movable k a here fa ma) fits).0
      (ap (λ u. n'.value u (s'.eval k b)) (sym (same_target k here))
      ∙ sym (names'.eval k b (back.carried same other tells tells' s' t' n' names' b) (known_after k here) fb (back.agrees_carried same other tells tells' s' t' n' names' b))
      ∙ ap (λ l. t'.eval l (back.carried same other tells tells' s' t' n' names' b)) (change.same_key k here)
      ∙ edit'.shift_eval (n.key k) (back.carried same other tells tells' s t n names a) (back.carried same other tells tells' s' t' n' names' b) (there k here) (back.fits_carried same other tells tells' s t n names a fa) (back.fits_carried same other tells tells' s' t' n' names' b fb) (movable_reads k a here fa ma) (shifted_reads k a b here fa fb ma moved)
      ∙ ap f.shift (names.eval k a (back.carried same other tells tells' s t n names a) (known k here) fa (back.agrees_carried same other tells tells' s t n names a)))

  pub edit_back : IsEdit same s s' e
  edit_back = record {
    lists = change.lists;
    target_stays = target_stays;
    reads_stay = reads_stay;
    same_target = same_target;
    same_reads = λ k u here. both_tests (has same.unknown (s'.reads k) u) (has same.unknown (s.reads k) u) (read_before k u here) (read_after k u here);
    bottom_movable = bottom_movable;
    join_movable = join_movable;
    eval_movable = eval_movable;
    shift_bottom = shift_bottom;
    shift_join = shift_join;
    shift_leq = shift_leq;
    shift_eval = shift_eval;
  }
