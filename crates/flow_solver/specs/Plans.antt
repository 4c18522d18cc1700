-- What is made ready for an edit.
use Rattle.std.specs.Prelude.{◌≡◌, ℕ, ◌<◌, Bool, true, ◌||◌, ◌&&◌, List, map}
use Rattle.list_theory.specs.Lists.{has, distinct}
use Rattle.constraint_theory.specs.Systems.{ConstraintSystem, numbers}
use Rattle.constraint_theory.specs.Edits.{Change, IsTainted, edited, renewed, unknown_stays}
use Rattle.constraint_theory.specs.Machine.{State}

-- the tainted unknowns, the keys that are to wait, and values for unknowns
pub record Plan (V : Type 0) : Type 0 where
  pub tainted : List ℕ
  pub renewed : List ℕ
  pub bottoms : List (ℕ × V)

abbrev pub plan_of : {V : Type 0} → List ℕ → List ℕ → List (ℕ × V) → Plan V
plan_of us ks values = record { tainted = us; renewed = ks; bottoms = values }

-- the numbers below which keys can be steps, keys can wait, and unknowns can have values
pub record Room : Type 0 where
  pub keys : ℕ
  pub waiting : ℕ
  pub unknowns : ℕ

abbrev pub room_of : ℕ → ℕ → ℕ → Room
room_of below_keys below_waiting below_unknowns = record { keys = below_keys; waiting = below_waiting; unknowns = below_unknowns }

module _ {V : Type 0} (s t : ConstraintSystem ℕ ℕ V) (e : Change ℕ ℕ V) where
  -- the unknowns after the edit that are tainted or added, with their bottoms
  pub record AreBottoms (taint : ℕ → Bool) (bottoms : List (ℕ × V)) : Type 0 where
    pub exactly : (u : ℕ) → has numbers.unknown (map (λ pair. pair.0) bottoms) u ≡ ((unknown_stays numbers s t e u && taint u) || has numbers.unknown e.added_unknowns u)
    pub each : bottoms ≡ map (λ u. (u, t.bottom u)) (map (λ pair. pair.0) bottoms)

  -- the keys after the edit that are added or aim into the set, each once, in any order
  pub record AreRenewed (taint : ℕ → Bool) (ks : List ℕ) : Type 0 where
    pub exactly : (k : ℕ) → has numbers.key ks k ≡ has numbers.key (renewed numbers s t e taint) k
    pub once : distinct numbers.key ks ≡ true

  -- The plan is the edit's: its tainted unknowns are those of the edit, its keys those that are to wait after the edit, and
  -- it has the bottoms.
  pub record IsPlan (steps : List ℕ) (plan : Plan V) : Type 0 where
    pub tainted : IsTainted numbers s t e steps (has numbers.unknown plan.tainted)
    pub renewed : AreRenewed (has numbers.unknown plan.tainted) plan.renewed
    pub bottoms : AreBottoms (has numbers.unknown plan.tainted) plan.bottoms

  -- Memory for the edit is taken: the plan is the edit's, and what the edit adds is below what has room.
  pub record IsReady (steps : List ℕ) (made : Plan V) (room : Room) : Type 0 where
    pub plan : IsPlan steps made
    pub keys : (k : ℕ) → has numbers.key e.added k ≡ true → k < room.keys
    pub waiting : (k : ℕ) → has numbers.key e.added k ≡ true → k < room.waiting
    pub unknowns : (u : ℕ) → has numbers.unknown e.added_unknowns u ≡ true → u < room.unknowns

  -- the machine's edit leads from the old state to the new one
  abbrev pub IsEdited : State ℕ → State ℕ → Type 0
  IsEdited old new = (taint : ℕ → Bool) × IsTainted numbers s t e old.steps taint × (new ≡ edited numbers s t e taint old)
