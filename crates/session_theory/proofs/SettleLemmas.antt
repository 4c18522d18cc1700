-- From a sound state some visits lead to one in which nothing waits; within each limit, or the limit is spent.
use Rattle.std.proofs.Common.{◌≡◌, ℕ, zero, suc, ◌<◌, ◌≤◌, true, ◌⊎◌, inl, inr, List, [], ◌∷◌, length, refl, ap, ◌∙◌, arith}
use Rattle.std.proofs.lemmas.Bool.{or_left}
use Rattle.list_theory.specs.Lists.{has}
use Rattle.constraint_theory.specs.Systems.{Equality, IsEquality, ConstraintSystem, IsLawful, bound}
use Rattle.constraint_theory.specs.Machine.{State, IsSound, Legal, after, visited}
use Rattle.constraint_theory.proofs.BoundLemmas as bounds
use Rattle.constraint_theory.proofs.VisitLemmas as visits

-- visits within a limit: nothing waits then, or the limit is spent and something waits
pub record Goes {K U V : Type 0} (same : Equality K U) (s : ConstraintSystem K U V) (limit : ℕ) (st : State K) : Type 0 where
  pub keys : List K
  pub legal : Legal same s st keys
  pub ends : ((length keys ≤ limit) × ((after same s st keys).waiting ≡ [])) ⊎ ((length keys ≡ limit) × (0 < length (after same s st keys).waiting))

module _ {K U V : Type 0} (same : Equality K U) (tells : IsEquality same) (s : ConstraintSystem K U V) (law : IsLawful same s) where
  waits_first : (st : State K) (k : K) (ks : List K) → st.waiting ≡ k ∷ ks → has same.key st.waiting k ≡ true
  waits_first st k ks e = ap (λ w. has same.key w k) e ∙ or_left (same.key k k) (has same.key ks k) (tells.keys.itself k)

  pub go : (limit : ℕ) (st : State K) → IsSound same s st → Goes same s limit st
  go zero st sound = elim st.waiting as (λ w. st.waiting ≡ w → Goes same s zero st) [
    | [] ↦ λ e. record { keys = []; legal = tt; ends = inl (omega arith, e) }
    | k ∷ ks ↦ λ e. record { keys = []; legal = tt; ends = inr (refl, rw e (omega arith)) }
  ] refl
  go (suc limit) st sound = elim st.waiting as (λ w. st.waiting ≡ w → Goes same s (suc limit) st) [
    | [] ↦ λ e. record { keys = []; legal = tt; ends = inl (omega arith, e) }
    | k ∷ ks ↦ λ e.
        let waits : has same.key st.waiting k ≡ true = waits_first st k ks e in
        let rest : Goes same s limit (visited same s st k) = go limit (visited same s st k) (visits.sound_visited same tells s law.monotone st k sound waits) in
        record {
          keys = k ∷ rest.keys;
          legal = (waits, rest.legal);
          ends = elim rest.ends [ inl h ↦ inl (omega (arith, h.0), h.1) | inr h ↦ inr (ap suc h.0, h.1) ];
        }
  ] refl

  -- within the bound nothing waits in the end
  pub settled_keys : (st : State K) → IsSound same s st → (keys : List K) × Legal same s st keys × ((after same s st keys).waiting ≡ [])
  settled_keys st sound =
      let g : Goes same s (bound same s) st = go (bound same s) st sound in
      elim g.ends [
        | inl h ↦ (g.keys, g.legal, h.1)
        | inr h ↦ absurd (omega (arith, h.0, bounds.unfinished_from_sound same tells s law g.keys st sound g.legal h.1))
      ]
