-- The machine's edit is the edit by name.
use Rattle.std.proofs.Common.{◌≡◌, Bool, true, false, not, ◌||◌, ◌&&◌, List, sym, ap, ◌∙◌, inl, inr}
use Rattle.std.specs.Prelude.{map, filter}
use Rattle.std.proofs.lemmas.Bool.{and_from, and_parts, both_ways, not-true, or_cases}
use Rattle.list_theory.specs.Lists.{has, push_all}
use Rattle.list_theory.proofs.ListLemmas.{has-filter, has-filter_from}
use Rattle.constraint_theory.specs.Systems.{ConstraintSystem, Equality, IsEquality, IsMonotone, IsKey, IsUnknown}
use Rattle.constraint_theory.specs.Machine.{State, IsSound}
use Rattle.constraint_theory.specs.Edits.{Change, IsEdit, IsTaint, IsTainted, edited, renewed, stays, unknown_stays}
use Rattle.constraint_theory.proofs.EditLemmas as edits
use Rattle.constraint_names.specs.Naming.{Naming, IsNamed, named}
use Rattle.constraint_names.specs.NamedEdits.{IsNamedChange, set_by_name}
use Rattle.constraint_names.proofs.MapLemmas.{filter-map, has-map, has-map_back, map-alike, push_all_by_name}
use Rattle.constraint_names.proofs.NamingLemmas as by_name
use Rattle.constraint_names.proofs.EditBackLemmas as back
use Rattle.constraint_names.proofs.EditBackLemmas.{both_tests}

abbrev state : {K : Type 0} → List K → List K → State K
state steps waiting = record { steps = steps; waiting = waiting }

module _ {K U V L W X : Type 0} (same : Equality K U) (other : Equality L W) (tells : IsEquality same) (tells' : IsEquality other) (s s' : ConstraintSystem K U V) (t t' : ConstraintSystem L W X) (n n' : Naming K U V L W X) (e : Change K U V) (f : Change L W X) (law : IsMonotone same s) (law' : IsMonotone same s') (names : IsNamed same other s t n) (names' : IsNamed same other s' t' n') (change : IsNamedChange same other s s' t t' n n' e f) (edit' : IsEdit other t t' f) where
  edit : IsEdit same s s' e
  edit = back.edit_back same other tells tells' s s' t t' n n' e f law law' names names' change edit'

  module _ (st : State K) (taint : U → Bool) (sound : IsSound same s st) (least : IsTainted same s s' e st.steps taint) where
    -- a tainted unknown is in use, since what taints is a target
    taint_used : (u : U) → taint u ≡ true → IsUnknown same s u
    taint_used u h =
        (and_parts (taint u) (has same.unknown s.unknowns u) (least.1 (λ v. taint v && has same.unknown s.unknowns v) (record {
          from_gone = λ k made gone. and_from (taint (s.target k)) (has same.unknown s.unknowns (s.target k)) (least.0.from_gone k made gone) (names.target_used k (sound.steps_known k made));
          along = λ k v made read tainted. and_from (taint (s.target k)) (has same.unknown s.unknowns (s.target k)) (least.0.along k v made read (and_parts (taint v) (has same.unknown s.unknowns v) tainted).0) (names.target_used k (sound.steps_known k made));
        }) u h)).1

    -- an unknown in use is tainted where its name is
    taint_named : (u : U) → IsUnknown same s u → set_by_name other s n taint (n.unknown u) ≡ taint u
    taint_named u used =
        by_name.has_unknown same other tells tells' s t n names (filter taint s.unknowns) u (λ v h. (has-filter same.unknown tells.unknowns taint s.unknowns v h).0) used
        ∙ both_tests (has same.unknown (filter taint s.unknowns) u) (taint u) (λ h. (has-filter same.unknown tells.unknowns taint s.unknowns u h).1) (λ h. has-filter_from same.unknown tells.unknowns taint s.unknowns u used h)

    -- a tainted name is that of a tainted unknown
    taint_back : (w : W) → set_by_name other s n taint w ≡ true → (u : U) × (taint u ≡ true) × (n.unknown u ≡ w)
    taint_back w h =
        let found : (u : U) × (has same.unknown (filter taint s.unknowns) u ≡ true) × (n.unknown u ≡ w) = has-map_back same.unknown other.unknown tells.unknowns tells'.unknowns n.unknown (filter taint s.unknowns) w h in
        (found.0, (has-filter same.unknown tells.unknowns taint s.unknowns found.0 found.1).1, found.2)

    -- and so after the edit: what is added is tainted in neither
    taint_after : (u : U) → IsUnknown same s' u → set_by_name other s n taint (n'.unknown u) ≡ taint u
    taint_after u used =
        elim (or_cases (unknown_stays same s s' e u) (has same.unknown e.added_unknowns u) (sym (change.lists.unknowns u) ∙ used)) [
          | inl here ↦ ap (set_by_name other s n taint) (change.same_unknown u here) ∙ taint_named u (and_parts (has same.unknown s.unknowns u) (not (has same.unknown e.gone_unknowns u)) here).0
          | inr added ↦
              let fresh : has other.unknown t.unknowns (n'.unknown u) ≡ false = edit'.lists.unknowns_new (n'.unknown u) (change.added_unknowns u used ∙ added) in
              both_tests (set_by_name other s n taint (n'.unknown u)) (taint u)
              (λ h. let found : (v : U) × (taint v ≡ true) × (n.unknown v ≡ n'.unknown u) = taint_back (n'.unknown u) h in
              absurd (both_ways (has other.unknown t.unknowns (n'.unknown u)) fresh (ap (has other.unknown t.unknowns) (sym found.2) ∙ by_name.unknown_there same other tells tells' s t n names found.0 (taint_used found.0 found.1))))
              (λ h. absurd (both_ways (has same.unknown s.unknowns u) (change.lists.unknowns_new u added) (taint_used u h)))
        ]

    step_back : (l : L) → has other.key (map n.key st.steps) l ≡ true → (k : K) × (has same.key st.steps k ≡ true) × (n.key k ≡ l)
    step_back l h = has-map_back same.key other.key tells.keys tells'.keys n.key st.steps l h

    -- the target of a step is tainted where its name is
    target_named : (k : K) (set : W → Bool) → IsKey same s k → set (t.target (n.key k)) ≡ set (n.unknown (s.target k))
    target_named k set known = ap set (names.target k known)

    closed_named : IsTaint other t t' f (map n.key st.steps) (set_by_name other s n taint)
    closed_named = record {
      from_gone = λ l made gone.
          let found : (k : K) × (has same.key st.steps k ≡ true) × (n.key k ≡ l) = step_back l made in
          let known : IsKey same s found.0 = sound.steps_known found.0 found.1 in
          ap (λ j. set_by_name other s n taint (t.target j)) (sym found.2) ∙ target_named found.0 (set_by_name other s n taint) known ∙ taint_named (s.target found.0) (names.target_used found.0 known)
          ∙ least.0.from_gone found.0 found.1 (sym (change.gone found.0 known) ∙ ap (has other.key f.gone) found.2 ∙ gone);
      along = λ l w made read tainted.
          let found : (k : K) × (has same.key st.steps k ≡ true) × (n.key k ≡ l) = step_back l made in
          let known : IsKey same s found.0 = sound.steps_known found.0 found.1 in
          let read_too : (u : U) × (taint u ≡ true) × (n.unknown u ≡ w) = taint_back w tainted in
          ap (λ j. set_by_name other s n taint (t.target j)) (sym found.2) ∙ target_named found.0 (set_by_name other s n taint) known ∙ taint_named (s.target found.0) (names.target_used found.0 known)
          ∙ least.0.along found.0 read_too.0 found.1 (sym (by_name.reads_named same other tells tells' s t n names found.0 read_too.0 known (taint_used read_too.0 read_too.1)) ∙ ap (λ j. has other.unknown (t.reads j) (n.unknown read_too.0)) found.2 ∙ ap (has other.unknown (t.reads l)) read_too.2 ∙ read) read_too.1;
    }

    least_named : (set : W → Bool) → IsTaint other t t' f (map n.key st.steps) set → (w : W) → set_by_name other s n taint w ≡ true → set w ≡ true
    least_named set closed w h =
        let found : (u : U) × (taint u ≡ true) × (n.unknown u ≡ w) = taint_back w h in
        ap set (sym found.2) ∙ least.1 (λ u. set (n.unknown u)) (record {
          from_gone = λ k made gone. sym (target_named k set (sound.steps_known k made))
              ∙ closed.from_gone (n.key k) (has-map same.key other.key tells.keys tells'.keys n.key st.steps k made) (change.gone k (sound.steps_known k made) ∙ gone);
          along = λ k v made read tainted. sym (target_named k set (sound.steps_known k made))
              ∙ closed.along (n.key k) (n.unknown v) (has-map same.key other.key tells.keys tells'.keys n.key st.steps k made) (by_name.reads_named same other tells tells' s t n names k v (sound.steps_known k made) (names.reads_used k v (sound.steps_known k made) read) ∙ read) tainted;
        }) found.0 found.1

    pub tainted_named : IsTainted other t t' f (map n.key st.steps) (set_by_name other s n taint)
    tainted_named = (closed_named, least_named)

    -- the steps that are kept
    steps_named : filter (λ l. not (set_by_name other s n taint (t.target l))) (map n.key st.steps) ≡ map n'.key (filter (λ k. not (taint (s.target k))) st.steps)
    steps_named =
        filter-map same.key tells.keys n.key (λ k. not (taint (s.target k))) (λ l. not (set_by_name other s n taint (t.target l))) st.steps
        (λ k made. ap not (target_named k (set_by_name other s n taint) (sound.steps_known k made) ∙ taint_named (s.target k) (names.target_used k (sound.steps_known k made))))
        ∙ map-alike same.key tells.keys n.key n'.key (filter (λ k. not (taint (s.target k))) st.steps) (λ k h.
        let kept : (has same.key st.steps k ≡ true) × (not (taint (s.target k)) ≡ true) = has-filter same.key tells.keys (λ j. not (taint (s.target j))) st.steps k h in
        sym (change.same_key k (edits.kept_stays same tells s s' e law law' edit taint st.steps least.0 sound.steps_known k kept.0 (not-true (taint (s.target k)) kept.1))))

    -- a waiting key that isn't gone stays
    waits_stays : (k : K) → has same.key (filter (λ j. not (has same.key e.gone j)) st.waiting) k ≡ true → stays same s s' e k ≡ true
    waits_stays k h =
        let kept : (has same.key st.waiting k ≡ true) × (not (has same.key e.gone k) ≡ true) = has-filter same.key tells.keys (λ j. not (has same.key e.gone j)) st.waiting k h in
        and_from (has same.key s.keys k) (not (has same.key e.gone k)) (sound.waiting_known k kept.0) kept.1

    waiting_named : filter (λ l. not (has other.key f.gone l)) (map n.key st.waiting) ≡ map n'.key (filter (λ k. not (has same.key e.gone k)) st.waiting)
    waiting_named =
        filter-map same.key tells.keys n.key (λ k. not (has same.key e.gone k)) (λ l. not (has other.key f.gone l)) st.waiting (λ k waits. ap not (change.gone k (sound.waiting_known k waits)))
        ∙ map-alike same.key tells.keys n.key n'.key (filter (λ k. not (has same.key e.gone k)) st.waiting) (λ k h. sym (change.same_key k (waits_stays k h)))

    renewed_named : renewed other t t' f (set_by_name other s n taint) ≡ map n'.key (renewed same s s' e taint)
    renewed_named =
        ap (filter (λ l. has other.key f.added l || set_by_name other s n taint (t'.target l))) (sym names'.keys)
        ∙ filter-map same.key tells.keys n'.key (λ k. has same.key e.added k || taint (s'.target k)) (λ l. has other.key f.added l || set_by_name other s n taint (t'.target l)) s'.keys
        (λ k known. ap (λ b. b || set_by_name other s n taint (t'.target (n'.key k))) (change.added k known)
        ∙ ap (λ b. has same.key e.added k || b) (ap (set_by_name other s n taint) (names'.target k known) ∙ taint_after (s'.target k) (names'.target_used k known)))

    pub edited_named : edited other t t' f (set_by_name other s n taint) (named n.key st) ≡ named n'.key (edited same s s' e taint st)
    edited_named =
        ap (λ ss. state ss (push_all other.key (filter (λ l. not (has other.key f.gone l)) (map n.key st.waiting)) (renewed other t t' f (set_by_name other s n taint)))) steps_named
        ∙ ap (λ ws. state (map n'.key (filter (λ k. not (taint (s.target k))) st.steps)) (push_all other.key ws (renewed other t t' f (set_by_name other s n taint)))) waiting_named
        ∙ ap (λ rs. state (map n'.key (filter (λ k. not (taint (s.target k))) st.steps)) (push_all other.key (map n'.key (filter (λ k. not (has same.key e.gone k)) st.waiting)) rs)) renewed_named
        ∙ ap (state (map n'.key (filter (λ k. not (taint (s.target k))) st.steps)))
        (push_all_by_name same.key other.key tells.keys tells'.keys n'.key (IsKey same s') names'.own_key (renewed same s s' e taint) (filter (λ k. not (has same.key e.gone k)) st.waiting)
        (λ k h. edits.known_after same tells s s' e law law' edit k (waits_stays k h))
        (λ k h. edits.renewed_known same tells s s' e law law' edit taint taint k h))
