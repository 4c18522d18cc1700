-- The laws of solving and of editing, each as one sentence over a system.
use Rattle.std.specs.Prelude.{◌≡◌, ◌<◌, ◌≤◌, Bool, true, false, List, [], length}
use Rattle.list_theory.specs.Lists.{has}
use Rattle.constraint_theory.specs.Systems.{Equality, IsEquality, ConstraintSystem, IsMonotone, IsLawful, IsNarrower, with_test, IsKey, IsUnknown, Satisfies, IsLeast, bound}
use Rattle.constraint_theory.specs.Machine.{State, IsSound, IsClosed, Legal, after, begin, replay, bound_within}
use Rattle.constraint_theory.specs.Edits.{Change, IsEdit, IsTaint, IsTainted, IsRegion, IsReach, AreEditedValues, edited, edit_bound, unknown_stays}

-- the sentence holds of each monotone system, whatever its heights and ranks
abbrev pub ForMonotone : (K U V : Type 0) → (Equality K U → ConstraintSystem K U V → Type 0) → Type 0
ForMonotone K U V P = (same : Equality K U) (s : ConstraintSystem K U V) → IsEquality same → IsMonotone same s → P same s

-- the sentence holds of each system that is monotone on all values that pass a test of their own, its own test aside
abbrev pub ForTests : (K U V : Type 0) → (Equality K U → ConstraintSystem K U V → (U → V → Bool) → Type 0) → Type 0
ForTests K U V P = (same : Equality K U) (s : ConstraintSystem K U V) (valid : U → V → Bool) → IsEquality same → IsMonotone same (with_test s valid) → P same s valid

-- the sentence holds of each system that meets the laws of order and of ranks
abbrev pub ForSystems : (K U V : Type 0) → (Equality K U → ConstraintSystem K U V → Type 0) → Type 0
ForSystems K U V P = (same : Equality K U) (s : ConstraintSystem K U V) → IsEquality same → IsLawful same s → P same s

-- the sentence holds of each edit that leads from a monotone system to another
abbrev pub ForEdits : (K U V : Type 0) → (Equality K U → ConstraintSystem K U V → ConstraintSystem K U V → Change K U V → Type 0) → Type 0
ForEdits K U V P = (same : Equality K U) (s t : ConstraintSystem K U V) (e : Change K U V) → IsEquality same → IsMonotone same s → IsMonotone same t → IsEdit same s t e → P same s t e

-- the sentence holds of each such edit to a system that meets the laws of ranks too
abbrev pub ForRankedEdits : (K U V : Type 0) → (Equality K U → ConstraintSystem K U V → ConstraintSystem K U V → Change K U V → Type 0) → Type 0
ForRankedEdits K U V P = (same : Equality K U) (s t : ConstraintSystem K U V) (e : Change K U V) → IsEquality same → IsMonotone same s → IsLawful same t → IsEdit same s t e → P same s t e

module _ {K U V : Type 0} (same : Equality K U) (s : ConstraintSystem K U V) where
  -- in a sound state in which nothing waits the values are the least solution
  abbrev pub SettledIsLeast : Type 0
  SettledIsLeast = (st : State K) → IsSound same s st → st.waiting ≡ [] → IsLeast same s (replay same s st.steps)

  -- whoever made the steps: where their replay satisfies each constraint, it is the least solution
  abbrev pub ReplayIsLeast : Type 0
  ReplayIsLeast = (ks : List K) → ((k : K) → has same.key ks k ≡ true → IsKey same s k) → Satisfies same s (replay same s ks) → IsLeast same s (replay same s ks)

  -- two least solutions have the same value at each unknown
  abbrev pub LeastIsUnique : Type 0
  LeastIsUnique = (a b : U → V) → IsLeast same s a → IsLeast same s b → (u : U) → IsUnknown same s u → a u ≡ b u

  -- the state at the start is sound
  abbrev pub BeginIsSound : Type 0
  BeginIsSound = IsSound same s (begin same s)

  -- each legal list of visits keeps a state sound
  abbrev pub VisitsKeepSound : Type 0
  VisitsKeepSound = (st : State K) (ks : List K) → IsSound same s st → Legal same s st ks → IsSound same s (after same s st ks)

  -- the one law on visits: from a sound state, over a closed set that holds the targets of the waiting keys
  abbrev pub VisitsAreBounded : Type 0
  VisitsAreBounded = (st : State K) (us : List U) (ks : List K) → IsSound same s st → IsClosed same s us st.waiting → Legal same s st ks → length ks ≤ bound_within same s us st.waiting

  -- and one after which something waits still is shorter
  abbrev pub UnfinishedVisitsAreFewer : Type 0
  UnfinishedVisitsAreFewer = (st : State K) (us : List U) (ks : List K) → IsSound same s st → IsClosed same s us st.waiting → Legal same s st ks → 0 < length (after same s st ks).waiting → length ks < bound_within same s us st.waiting

  -- from the start no legal list of visits is longer than the bound
  abbrev pub VisitsWithinBound : Type 0
  VisitsWithinBound = (ks : List K) → Legal same s (begin same s) ks → length ks ≤ bound same s

  -- nor is one from any sound state
  abbrev pub VisitsFromSound : Type 0
  VisitsFromSound = (st : State K) (ks : List K) → IsSound same s st → Legal same s st ks → length ks ≤ bound same s

module _ {K U V : Type 0} (same : Equality K U) (s : ConstraintSystem K U V) (valid : U → V → Bool) where
  -- in a sound state in which nothing waits the values are the least of all valid solutions, whatever fits the system
  abbrev pub SettledIsLeastOfValid : Type 0
  SettledIsLeastOfValid = (st : State K) → IsSound same s st → st.waiting ≡ [] → IsLeast same (with_test s valid) (replay same s st.steps)

  -- where fewer values fit, and bottom, joins and constraints keep to them, the system is monotone on these too
  abbrev pub NarrowerIsMonotone : Type 0
  NarrowerIsMonotone = IsNarrower same s valid → IsMonotone same s

module _ {K U V : Type 0} (same : Equality K U) (s t : ConstraintSystem K U V) (e : Change K U V) where
  -- the machine's edit keeps a state sound
  abbrev pub EditKeepsSound : Type 0
  EditKeepsSound = (st : State K) (taint : U → Bool) → IsSound same s st → IsTaint same s t e st.steps taint → IsSound same t (edited same s t e taint st)

  -- the values after the edit are the renamed ones, with bottom where there is taint and where the unknown is new
  abbrev pub EditRenamesValues : Type 0
  EditRenamesValues = (st : State K) (taint : U → Bool) → IsSound same s st → IsTaint same s t e st.steps taint → AreEditedValues same s t e taint (replay same s st.steps) (replay same t (edited same s t e taint st).steps)

  -- where no gone key is a step, the edit takes out no step, and renames each value that stays
  abbrev pub IdleGoneTaintsNothing : Type 0
  IdleGoneTaintsNothing = (st : State K) (taint : U → Bool) → IsSound same s st → IsTainted same s t e st.steps taint → ((k : K) → has same.key st.steps k ≡ true → has same.key e.gone k ≡ false) →
      ((edited same s t e taint st).steps ≡ st.steps) × ((u : U) → unknown_stays same s t e u ≡ true → replay same t st.steps u ≡ e.shift (replay same s st.steps u))

  -- the tainted unknowns lie in each region
  abbrev pub TaintLiesInRegion : Type 0
  TaintLiesInRegion = (st : State K) (taint region : U → Bool) → IsSound same s st → IsTainted same s t e st.steps taint → IsRegion same s t e region → (u : U) → taint u ≡ true → region u ≡ true

  -- after an edit of a sound state in which nothing waits, no legal list of visits is longer than the edit's bound
  abbrev pub VisitsAfterEdit : Type 0
  VisitsAfterEdit = (st : State K) (taint region reach : U → Bool) (ks : List K) → IsSound same s st → st.waiting ≡ [] → IsTainted same s t e st.steps taint → IsRegion same s t e region → IsReach same s t e region reach → Legal same t (edited same s t e taint st) ks → length ks ≤ edit_bound same s t e region reach
