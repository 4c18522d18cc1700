-- Moments: visits keep them sound, and they settle in the end.
use Rattle.std.proofs.Common.{◌≡◌, ℕ, ◌<◌, ◌⊎◌, inl, inr, List, [], length, Option, Some, None, refl, sym, ap, subst}
use Rattle.list_theory.specs.Lists.{has}
use Rattle.constraint_theory.specs.Systems.{Equality, IsEquality, IsLeast, ConstraintSystem, bound}
use Rattle.constraint_theory.specs.Machine.{IsSound, Legal, after, replay}
use Rattle.constraint_theory.proofs.BoundLemmas as bounds
use Rattle.constraint_theory.proofs.LeastLemmas as least
use Rattle.constraint_theory.proofs.VisitLemmas as visits
use Rattle.session_theory.specs.Moments.{Moment, AreVisits, IsSoundMoment, Settles, Spends}
use Rattle.session_theory.specs.Laws.{AreSystems}
use Rattle.session_theory.proofs.SettleLemmas.{Goes, go, settled_keys}

module _ {T K U V : Type 0} (same : Equality K U) (tells : IsEquality same) (IsSystemOf : T → ConstraintSystem K U V → Type 0) (systems : AreSystems same IsSystemOf) where
  -- the state is sound for whichever system is the tree's
  pub sound_for : (m : Moment T K) (s : ConstraintSystem K U V) → IsSystemOf m.tree s → IsSoundMoment same IsSystemOf m → IsSound same s m.state
  sound_for m s of_tree sound = subst (λ (x : ConstraintSystem K U V). IsSound same x m.state) (systems.one m.tree sound.system s sound.of_tree of_tree) sound.sound

  pub sound_after : (n : ℕ) (m next : Moment T K) → IsSoundMoment same IsSystemOf m → AreVisits same IsSystemOf n m next → IsSoundMoment same IsSystemOf next
  sound_after n m next sound v = subst (λ (x : Moment T K). IsSoundMoment same IsSystemOf x) (sym v.is) (record {
    system = v.system;
    of_tree = v.of_tree;
    sound = visits.sound_after same tells v.system (systems.lawful m.tree v.system v.of_tree).monotone v.keys m.state (sound_for m v.system v.of_tree sound) v.legal;
  })

  pub settles : (m : Moment T K) → IsSoundMoment same IsSystemOf m → (next : Moment T K) × Settles same IsSystemOf None m next
  settles m sound =
      let found : (keys : List K) × Legal same sound.system m.state keys × ((after same sound.system m.state keys).waiting ≡ []) = settled_keys same tells sound.system (systems.lawful m.tree sound.system sound.of_tree) m.state sound.sound in (
        record { tree = m.tree; state = after same sound.system m.state found.0 },
        record {
          count = length found.0;
          visits = record { system = sound.system; of_tree = sound.of_tree; keys = found.0; count = refl; legal = found.1; is = refl };
          within = tt;
          settled = found.2;
        },
      )

  pub settles_or_spends : (limit : ℕ) (m : Moment T K) → IsSoundMoment same IsSystemOf m → (next : Moment T K) × (Settles same IsSystemOf (Some limit) m next ⊎ Spends same IsSystemOf limit m next)
  settles_or_spends limit m sound =
      let g : Goes same sound.system limit m.state = go same tells sound.system (systems.lawful m.tree sound.system sound.of_tree) limit m.state sound.sound in (
        record { tree = m.tree; state = after same sound.system m.state g.keys },
        elim g.ends [
          | inl h ↦ inl (record {
            count = length g.keys;
            visits = record { system = sound.system; of_tree = sound.of_tree; keys = g.keys; count = refl; legal = g.legal; is = refl };
            within = h.0;
            settled = h.1;
          })
          | inr h ↦ inr (record {
            visits = record { system = sound.system; of_tree = sound.of_tree; keys = g.keys; count = h.0; legal = g.legal; is = refl };
            unsettled = h.1;
          })
        ],
      )

  pub spent_below : (limit : ℕ) (m next : Moment T K) (s : ConstraintSystem K U V) → IsSoundMoment same IsSystemOf m → IsSystemOf m.tree s → Spends same IsSystemOf limit m next → limit < bound same s
  spent_below limit m next s sound of_tree spent =
      let v : AreVisits same IsSystemOf limit m next = spent.visits in
      let fewer : length v.keys < bound same v.system = bounds.unfinished_from_sound same tells v.system (systems.lawful m.tree v.system v.of_tree) v.keys m.state (sound_for m v.system v.of_tree sound) v.legal
      (subst (λ (x : Moment T K). 0 < length x.state.waiting) v.is spent.unsettled) in
      subst (λ (x : ConstraintSystem K U V). limit < bound same x) (systems.one m.tree v.system s v.of_tree of_tree) (subst (λ (n : ℕ). n < bound same v.system) v.count fewer)

  -- where nothing waits, the values are the least solution of the tree
  pub settled_least : (limit : Option ℕ) (m next : Moment T K) (s : ConstraintSystem K U V) → IsSoundMoment same IsSystemOf m → Settles same IsSystemOf limit m next → IsSystemOf m.tree s
      → (next.tree ≡ m.tree) × IsLeast same s (replay same s next.state.steps)
  settled_least limit m next s sound h of_tree =
      let kept : IsSoundMoment same IsSystemOf next = sound_after h.count m next sound h.visits in
      let tree : next.tree ≡ m.tree = ap (λ (x : Moment T K). x.tree) h.visits.is in
      let here : IsSystemOf next.tree s = subst (λ t. IsSystemOf t s) (sym tree) of_tree in
      (tree, least.least_at_rest same tells s (systems.lawful m.tree s of_tree).monotone next.state (sound_for next s here kept) (λ k. ap (λ waiting. has same.key waiting k) h.settled))
