-- The machine that solves a system: it visits the constraints that wait, one after another.
use Rattle.std.specs.Prelude.{◌≡◌, ℕ, ◌+◌, ◌-◌, ◌*◌, Bool, true, false, if◌then◌else◌, List, [], ◌∷◌, ◌++◌, length, sum_by}
use Rattle.list_theory.specs.Lists.{has, without, push_all, distinct}
use Rattle.constraint_theory.specs.Systems.{Equality, ConstraintSystem, IsKey, IsUnknown, holds, readers}

-- The steps that were made, each the key whose value was joined to its target's, and the keys that wait. The values are
-- no part of it: they are the replay of the steps.
pub record State (K : Type 0) : Type 0 where
  pub steps : List K
  pub waiting : List K

-- the assignment with another value at one unknown
abbrev pub updated : {U V : Type 0} → (U → U → Bool) → (U → V) → U → V → U → V
updated same a u v w = if same w u then v else a w

module _ {K U V : Type 0} (same : Equality K U) (s : ConstraintSystem K U V) where
  -- the assignment in which the key's value is joined to that of its target
  abbrev pub joined : (U → V) → K → (U → V)
  joined a k = updated same.unknown a (s.target k) (s.join (s.target k) (a (s.target k)) (s.eval k a))

  -- each key's value joined in turn, from an assignment on
  abbrev pub replay_from : (U → V) → List K → (U → V)
  replay_from a [] = a
  replay_from a (k ∷ ks) = replay_from (joined a k) ks

  -- bottom at each unknown, and then each step's value joined in turn
  abbrev pub replay : List K → (U → V)
  replay ks = replay_from s.bottom ks

  -- no steps, and all keys wait
  abbrev pub begin : State K
  begin = record { steps = []; waiting = s.keys }

  -- What a visit of a key leaves. Where its constraint is satisfied, it stops waiting. Otherwise it stops waiting, is
  -- appended to the steps, and then all keys that read its target wait.
  abbrev pub visited : State K → K → State K
  visited st k =
      if holds same s (replay st.steps) k
      then record { steps = st.steps; waiting = without same.key st.waiting k }
      else record { steps = st.steps ++ k ∷ []; waiting = push_all same.key (without same.key st.waiting k) (readers same s (s.target k)) }

  -- visits of the keys in turn, where each waits at its turn
  abbrev pub Legal : State K → List K → Type 0
  Legal st [] = Unit {0}
  Legal st (k ∷ ks) = (has same.key st.waiting k ≡ true) × Legal (visited st k) ks

  -- what a list of visits leaves
  abbrev pub after : State K → List K → State K
  after st [] = st
  after st (k ∷ ks) = after (visited st k) ks

  -- each step and each waiting key is a key, none waits twice, and each constraint that doesn't wait is satisfied
  pub record IsSound (st : State K) : Type 0 where
    pub steps_known : (k : K) → has same.key st.steps k ≡ true → IsKey same s k
    pub waiting_known : (k : K) → has same.key st.waiting k ≡ true → IsKey same s k
    pub waiting_once : distinct same.key st.waiting ≡ true
    pub satisfied : (k : K) → IsKey same s k → has same.key st.waiting k ≡ false → holds same s (replay st.steps) k ≡ true

  -- a set of unknowns that holds the targets of the waiting keys and, with an unknown, the targets of its readers
  pub record IsClosed (us : List U) (waiting : List K) : Type 0 where
    pub in_use : (u : U) → has same.unknown us u ≡ true → IsUnknown same s u
    pub targets : (k : K) → has same.key waiting k ≡ true → has same.unknown us (s.target k) ≡ true
    pub readers_too : (u : U) (k : K) → has same.unknown us u ≡ true → has same.key (readers same s u) k ≡ true → has same.unknown us (s.target k) ≡ true

  -- the number of waiting keys, and for each unknown of the set its height times the number of its readers
  abbrev pub bound_within : List U → List K → ℕ
  bound_within us waiting = length waiting + sum_by (λ u. s.height u * length (readers same s u)) us

  -- how far the values of these unknowns may still rise, each step weighed by the readers that it wakes
  abbrev pub room : (U → V) → List U → ℕ
  room a us = sum_by (λ u. (s.height u - s.rank u (a u)) * length (readers same s u)) us

  -- a number that each visit lowers
  abbrev pub potential : State K → List U → ℕ
  potential st us = length st.waiting + room (replay st.steps) us
