-- A system by name: its values, visits and states.
use Rattle.std.proofs.Common.{◌≡◌, ◌*◌, true, false, cond, List, [], ◌∷◌, ◌++◌, length, refl, sym, ap, ◌∙◌, arith}
use Rattle.std.specs.Prelude.{map, filter, sum_by}
use Rattle.std.proofs.lemmas.List.{length-map, map-append}
use Rattle.list_theory.specs.Lists.{has, without, push_all}
use Rattle.list_theory.proofs.ListLemmas.{has-filter, has-without}
use Rattle.constraint_theory.specs.Systems.{ConstraintSystem, Equality, IsEquality, IsMonotone, IsLeast, Fitting, IsKey, IsUnknown, Reads, readers, holds, bound}
use Rattle.constraint_theory.specs.Machine.{State, IsSound, Legal, after, begin, joined, replay, replay_from, visited}
use Rattle.constraint_theory.proofs.LeastLemmas as theory
use Rattle.constraint_theory.proofs.VisitLemmas as visits
use Rattle.constraint_names.specs.Naming.{Naming, IsNamed, HasNamedRanks, Agrees, named}
use Rattle.constraint_names.proofs.MapLemmas.{filter-map, sum-map_by, has-map, has-map_back, same_by_name, has_by_name, without_by_name, push_all_by_name, distinct_by_name}

abbrev state : {K : Type 0} → List K → List K → State K
state steps waiting = record { steps = steps; waiting = waiting }

-- an assignment that has the values of a least solution is one
module _ {L W X : Type 0} (other : Equality L W) (tells' : IsEquality other) (t : ConstraintSystem L W X) (law' : IsMonotone other t) where
  pub least_alike : (a b : W → X) → ((w : W) → IsUnknown other t w → b w ≡ a w) → IsLeast other t a → IsLeast other t b
  least_alike a b alike least =
      let fits : Fitting other t b = λ w used. ap (t.fits w) (alike w used) ∙ least.fits w used in
      record {
        fits = fits;
        satisfies = λ l known. ap (λ x. t.leq (t.target l) x (b (t.target l))) (law'.eval_reads l b a known fits least.fits (λ w read. alike w (law'.reads_used l w known read)))
            ∙ ap (t.leq (t.target l) (t.eval l a)) (alike (t.target l) (law'.target_used l known)) ∙ least.satisfies l known;
        below_others = λ c fc sat w used. ap (λ x. t.leq w x (c w)) (alike w used) ∙ least.below_others c fc sat w used;
      }

module _ {K U V L W X : Type 0} (same : Equality K U) (other : Equality L W) (tells : IsEquality same) (tells' : IsEquality other) (s : ConstraintSystem K U V) (t : ConstraintSystem L W X) (n : Naming K U V L W X) (names : IsNamed same other s t n) where
  pub key_there : (k : K) → IsKey same s k → IsKey other t (n.key k)
  key_there k known = ap (λ ls. has other.key ls (n.key k)) (sym names.keys) ∙ has-map same.key other.key tells.keys tells'.keys n.key s.keys k known

  pub unknown_there : (u : U) → IsUnknown same s u → IsUnknown other t (n.unknown u)
  unknown_there u used = ap (λ ws. has other.unknown ws (n.unknown u)) (sym names.unknowns) ∙ has-map same.unknown other.unknown tells.unknowns tells'.unknowns n.unknown s.unknowns u used

  pub key_back : (l : L) → IsKey other t l → (k : K) × (IsKey same s k) × (n.key k ≡ l)
  key_back l known = has-map_back same.key other.key tells.keys tells'.keys n.key s.keys l (ap (λ ls. has other.key ls l) names.keys ∙ known)

  pub unknown_back : (w : W) → IsUnknown other t w → (u : U) × (IsUnknown same s u) × (n.unknown u ≡ w)
  unknown_back w used = has-map_back same.unknown other.unknown tells.unknowns tells'.unknowns n.unknown s.unknowns w (ap (λ ws. has other.unknown ws w) names.unknowns ∙ used)

  pub has_key : (ks : List K) (k : K) → ((j : K) → has same.key ks j ≡ true → IsKey same s j) → IsKey same s k → has other.key (map n.key ks) (n.key k) ≡ has same.key ks k
  has_key ks k all known = has_by_name same.key other.key tells.keys tells'.keys n.key (IsKey same s) names.own_key ks k all known

  pub has_unknown : (us : List U) (u : U) → ((v : U) → has same.unknown us v ≡ true → IsUnknown same s v) → IsUnknown same s u → has other.unknown (map n.unknown us) (n.unknown u) ≡ has same.unknown us u
  has_unknown us u all used = has_by_name same.unknown other.unknown tells.unknowns tells'.unknowns n.unknown (IsUnknown same s) names.own_unknown us u all used

  pub reads_named : (k : K) (u : U) → IsKey same s k → IsUnknown same s u → has other.unknown (t.reads (n.key k)) (n.unknown u) ≡ has same.unknown (s.reads k) u
  reads_named k u known used = names.reads k (n.unknown u) known ∙ has_unknown (s.reads k) u (λ v read. names.reads_used k v known read) used

  -- what is read by name is the name of what is read
  pub reads_back : (k : K) (w : W) → IsKey same s k → Reads other t (n.key k) w → (u : U) × (Reads same s k u) × (n.unknown u ≡ w)
  reads_back k w known read = has-map_back same.unknown other.unknown tells.unknowns tells'.unknowns n.unknown (s.reads k) w (sym (names.reads k w known) ∙ read)

  pub readers_named : (u : U) → IsUnknown same s u → readers other t (n.unknown u) ≡ map n.key (readers same s u)
  readers_named u used =
      ap (filter (λ l. has other.unknown (t.reads l) (n.unknown u))) (sym names.keys)
      ∙ filter-map same.key tells.keys n.key (λ k. has same.unknown (s.reads k) u) (λ l. has other.unknown (t.reads l) (n.unknown u)) s.keys (λ k known. reads_named k u known used)

  pub begin_named : named n.key (begin same s) ≡ begin other t
  begin_named = ap (λ ls. state [] ls) names.keys

  pub bound_named : HasNamedRanks same other s t n → bound other t ≡ bound same s
  bound_named ranks =
      let keys : length t.keys ≡ length s.keys = ap length (sym names.keys) ∙ length-map s.keys n.key in
      let rises : sum_by (λ w. t.height w * length (readers other t w)) t.unknowns ≡ sum_by (λ u. s.height u * length (readers same s u)) s.unknowns =
      ap (sum_by (λ w. t.height w * length (readers other t w))) (sym names.unknowns)
      ∙ sum-map_by same.unknown tells.unknowns n.unknown (λ w. t.height w * length (readers other t w)) (λ u. s.height u * length (readers same s u)) s.unknowns
      (λ u used. ap (λ h. h * length (readers other t (n.unknown u))) (ranks.height u used) ∙ ap (λ r. s.height u * r) (ap length (readers_named u used) ∙ length-map (readers same s u) n.key)) in
      omega (arith, keys, rises)

  module _ (law : IsMonotone same s) where
    agrees_joined : (a : U → V) (b : W → X) (k : K) → Fitting same s a → IsKey same s k → Agrees same other s t n a b → Agrees same other s t n (joined same s a k) (joined other t b (n.key k))
    agrees_joined a b k fa known agree u used =
        let there : IsUnknown same s (s.target k) = names.target_used k known in
        let at_target : t.join (n.unknown (s.target k)) (b (n.unknown (s.target k))) (t.eval (n.key k) b) ≡ n.value (s.target k) (s.join (s.target k) (a (s.target k)) (s.eval k a)) =
        ap (λ x. t.join (n.unknown (s.target k)) x (t.eval (n.key k) b)) (agree (s.target k) there)
        ∙ ap (t.join (n.unknown (s.target k)) (n.value (s.target k) (a (s.target k)))) (names.eval k a b known fa agree)
        ∙ names.join (s.target k) (a (s.target k)) (s.eval k a) there (fa (s.target k) there) (law.eval_fits k a known fa) in
        ap (λ w. cond (other.unknown (n.unknown u) w) (t.join w (b w) (t.eval (n.key k) b)) (b (n.unknown u))) (names.target k known)
        ∙ ap (λ c. cond c (t.join (n.unknown (s.target k)) (b (n.unknown (s.target k))) (t.eval (n.key k) b)) (b (n.unknown u))) (same_by_name same.unknown other.unknown tells.unknowns tells'.unknowns n.unknown (IsUnknown same s) names.own_unknown u (s.target k) used there)
        ∙ (elim (same.unknown u (s.target k)) as (λ c. same.unknown u (s.target k) ≡ c → cond c (t.join (n.unknown (s.target k)) (b (n.unknown (s.target k))) (t.eval (n.key k) b)) (b (n.unknown u)) ≡ n.value u (cond c (s.join (s.target k) (a (s.target k)) (s.eval k a)) (a u))) [
          | true ↦ λ e. at_target ∙ ap (λ v. n.value v (s.join (s.target k) (a (s.target k)) (s.eval k a))) (sym (tells.unknowns.exact u (s.target k) e))
          | false ↦ λ _. agree u used
        ] refl)

    agrees_from : (ks : List K) (a : U → V) (b : W → X) → theory.AllKnown same tells s law ks → Fitting same s a → Agrees same other s t n a b → Agrees same other s t n (replay_from same s a ks) (replay_from other t b (map n.key ks))
    agrees_from [] a b all fa agree = agree
    agrees_from (k ∷ ks) a b all fa agree =
        let known : IsKey same s k = theory.known_head same tells s law k ks all in
        agrees_from ks (joined same s a k) (joined other t b (n.key k)) (theory.known_tail same tells s law k ks all) (theory.fits_joined same tells s law a k fa known) (agrees_joined a b k fa known agree)

    pub agrees_replay : (ks : List K) → theory.AllKnown same tells s law ks → Agrees same other s t n (replay same s ks) (replay other t (map n.key ks))
    agrees_replay ks all = agrees_from ks s.bottom t.bottom all law.bottom_fits (λ u used. names.bottom u used)

    pub holds_named : (a : U → V) (b : W → X) (k : K) → Fitting same s a → Agrees same other s t n a b → IsKey same s k → holds other t b (n.key k) ≡ holds same s a k
    holds_named a b k fa agree known =
        let there : IsUnknown same s (s.target k) = names.target_used k known in
        ap (λ w. t.leq w (t.eval (n.key k) b) (b w)) (names.target k known)
        ∙ ap (λ x. t.leq (n.unknown (s.target k)) x (b (n.unknown (s.target k)))) (names.eval k a b known fa agree)
        ∙ ap (t.leq (n.unknown (s.target k)) (n.value (s.target k) (s.eval k a))) (agree (s.target k) there)
        ∙ names.leq (s.target k) (s.eval k a) (a (s.target k)) there (law.eval_fits k a known fa) (fa (s.target k) there)

    holds_replay : (ks : List K) (k : K) → theory.AllKnown same tells s law ks → IsKey same s k → holds other t (replay other t (map n.key ks)) (n.key k) ≡ holds same s (replay same s ks) k
    holds_replay ks k all known = holds_named (replay same s ks) (replay other t (map n.key ks)) k (theory.fits_replay same tells s law ks all) (agrees_replay ks all) known

    pub visited_named : (st : State K) (k : K) → IsSound same s st → has same.key st.waiting k ≡ true → visited other t (named n.key st) (n.key k) ≡ named n.key (visited same s st k)
    visited_named st k sound waits =
        let known : IsKey same s k = sound.waiting_known k waits in
        let there : IsUnknown same s (s.target k) = names.target_used k known in
        let left : without other.key (map n.key st.waiting) (n.key k) ≡ map n.key (without same.key st.waiting k) = without_by_name same.key other.key tells.keys tells'.keys n.key (IsKey same s) names.own_key st.waiting k sound.waiting_known known in
        let woken : readers other t (t.target (n.key k)) ≡ map n.key (readers same s (s.target k)) = ap (λ w. readers other t w) (names.target k known) ∙ readers_named (s.target k) there in
        let pushed : push_all other.key (map n.key (without same.key st.waiting k)) (map n.key (readers same s (s.target k))) ≡ map n.key (push_all same.key (without same.key st.waiting k) (readers same s (s.target k))) =
        push_all_by_name same.key other.key tells.keys tells'.keys n.key (IsKey same s) names.own_key (readers same s (s.target k)) (without same.key st.waiting k)
        (λ j h. sound.waiting_known j (has-without same.key tells.keys st.waiting k j h).0)
        (λ j h. (has-filter same.key tells.keys (λ i. has same.unknown (s.reads i) (s.target k)) s.keys j h).0) in
        ap (λ c. cond c (state (map n.key st.steps) (without other.key (map n.key st.waiting) (n.key k))) (state (map n.key st.steps ++ n.key k ∷ []) (push_all other.key (without other.key (map n.key st.waiting) (n.key k)) (readers other t (t.target (n.key k)))))) (holds_replay st.steps k sound.steps_known known)
        ∙ (elim (holds same s (replay same s st.steps) k) as (λ c. cond c (state (map n.key st.steps) (without other.key (map n.key st.waiting) (n.key k))) (state (map n.key st.steps ++ n.key k ∷ []) (push_all other.key (without other.key (map n.key st.waiting) (n.key k)) (readers other t (t.target (n.key k)))))
        ≡ named n.key (cond c (state st.steps (without same.key st.waiting k)) (state (st.steps ++ k ∷ []) (push_all same.key (without same.key st.waiting k) (readers same s (s.target k)))))) [
          | true ↦ ap (state (map n.key st.steps)) left
          | false ↦ ap (λ ws. state (map n.key st.steps ++ n.key k ∷ []) (push_all other.key ws (readers other t (t.target (n.key k))))) left
              ∙ ap (λ rs. state (map n.key st.steps ++ n.key k ∷ []) (push_all other.key (map n.key (without same.key st.waiting k)) rs)) woken
              ∙ ap (state (map n.key st.steps ++ n.key k ∷ [])) pushed
              ∙ ap (λ ss. state ss (map n.key (push_all same.key (without same.key st.waiting k) (readers same s (s.target k))))) (sym (map-append n.key st.steps (k ∷ [])))
        ])

    pub sound_named : (st : State K) → IsSound same s st → IsSound other t (named n.key st)
    sound_named st sound = record {
      steps_known = λ l h.
          let found : (k : K) × (has same.key st.steps k ≡ true) × (n.key k ≡ l) = has-map_back same.key other.key tells.keys tells'.keys n.key st.steps l h in
          ap (has other.key t.keys) (sym found.2) ∙ key_there found.0 (sound.steps_known found.0 found.1);
      waiting_known = λ l h.
          let found : (k : K) × (has same.key st.waiting k ≡ true) × (n.key k ≡ l) = has-map_back same.key other.key tells.keys tells'.keys n.key st.waiting l h in
          ap (has other.key t.keys) (sym found.2) ∙ key_there found.0 (sound.waiting_known found.0 found.1);
      waiting_once = distinct_by_name same.key other.key tells.keys tells'.keys n.key (IsKey same s) names.own_key st.waiting sound.waiting_known sound.waiting_once;
      satisfied = λ l known idle.
          let found : (k : K) × (IsKey same s k) × (n.key k ≡ l) = key_back l known in
          let rests : has same.key st.waiting found.0 ≡ false = sym (has_key st.waiting found.0 sound.waiting_known found.1) ∙ ap (has other.key (map n.key st.waiting)) found.2 ∙ idle in
          ap (λ j. holds other t (replay other t (map n.key st.steps)) j) (sym found.2) ∙ holds_replay st.steps found.0 sound.steps_known found.1 ∙ sound.satisfied found.0 found.1 rests;
    }

    pub legal_named : (ks : List K) (st : State K) → IsSound same s st → Legal same s st ks → Legal other t (named n.key st) (map n.key ks)
    legal_named [] st sound legal = tt
    legal_named (k ∷ ks) st sound legal =
        (has-map same.key other.key tells.keys tells'.keys n.key st.waiting k legal.0, rw (visited_named st k sound legal.0) (legal_named ks (visited same s st k) (visits.sound_visited same tells s law st k sound legal.0) legal.1))

    pub after_named : (ks : List K) (st : State K) → IsSound same s st → Legal same s st ks → after other t (named n.key st) (map n.key ks) ≡ named n.key (after same s st ks)
    after_named [] st sound legal = refl
    after_named (k ∷ ks) st sound legal =
        ap (λ x. after other t x (map n.key ks)) (visited_named st k sound legal.0) ∙ after_named ks (visited same s st k) (visits.sound_visited same tells s law st k sound legal.0) legal.1

    pub settled_named : (st : State K) (b : W → X) → IsMonotone other t → IsSound same s st → st.waiting ≡ [] → Agrees same other s t n (replay same s st.steps) b → IsLeast other t b
    settled_named st b law' sound rest agree =
        least_alike other tells' t law' (replay other t (map n.key st.steps)) b
        (λ w used. let found : (u : U) × (IsUnknown same s u) × (n.unknown u ≡ w) = unknown_back w used in
        ap b (sym found.2) ∙ agree found.0 found.1 ∙ sym (agrees_replay st.steps sound.steps_known found.0 found.1) ∙ ap (replay other t (map n.key st.steps)) found.2)
        (theory.least_at_rest other tells' t law' (named n.key st) (sound_named st sound) (λ l. ap (λ ks. has other.key (map n.key ks) l) rest))
