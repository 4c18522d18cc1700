-- The machine over trees: a tree that is replaced part by part, and the state of the machine that solves its constraints.
use Rattle.std.specs.Prelude.{◌≡◌, ℕ, ◌<◌, ◌≤◌, Bool, true, not, List, [], filter, length, Option, Some, None}
use Rattle.list_theory.specs.Lists.{has}
use Rattle.constraint_theory.specs.Systems.{Equality, ConstraintSystem}
use Rattle.constraint_theory.specs.Machine.{State, IsSound, Legal, after, begin}
use Rattle.constraint_theory.specs.Edits.{Change, IsTainted, edited}

-- The present tree, and the steps and the waiting keys of the machine that solves its constraints.
pub record Moment (T K : Type 0) : Type 0 where
  pub tree : T
  pub state : State K

-- the number is within the limit, where there is one
abbrev pub IsWithin : Option ℕ → ℕ → Type 0
IsWithin None n = Unit {0}
IsWithin (Some limit) n = n ≤ limit

-- IsSystemOf: these are the constraints of the tree
module _ {T K U V : Type 0} (same : Equality K U) (IsSystemOf : T → ConstraintSystem K U V → Type 0) where
  -- the state is sound for the constraints of the tree
  pub record IsSoundMoment (m : Moment T K) : Type 0 where
    pub system : ConstraintSystem K U V
    pub of_tree : IsSystemOf m.tree system
    pub sound : IsSound same system m.state

  -- the start: no steps, and all keys of the tree wait
  pub record IsBegin (tree : T) (m : Moment T K) : Type 0 where
    pub system : ConstraintSystem K U V
    pub of_tree : IsSystemOf tree system
    pub is : m ≡ record { tree = tree; state = begin same system }

  -- so many visits lead from one moment to another, each of a key that waits at its turn
  pub record AreVisits (n : ℕ) (m next : Moment T K) : Type 0 where
    pub system : ConstraintSystem K U V
    pub of_tree : IsSystemOf m.tree system
    pub keys : List K
    pub count : length keys ≡ n
    pub legal : Legal same system m.state keys
    pub is : next ≡ record { tree = m.tree; state = after same system m.state keys }

  -- visits after which nothing waits, no more than the limit where there is one
  pub record Settles (limit : Option ℕ) (m next : Moment T K) : Type 0 where
    pub count : ℕ
    pub visits : AreVisits count m next
    pub within : IsWithin limit count
    pub settled : next.state.waiting ≡ []

  -- exactly as many visits as the limit, after which something waits
  pub record Spends (limit : ℕ) (m next : Moment T K) : Type 0 where
    pub visits : AreVisits limit m next
    pub unsettled : 0 < length next.state.waiting

  -- THE EDIT, in two ways of which a session takes one

  -- all begins anew: no steps, and all keys of the new tree wait
  abbrev pub Restarts : Moment T K → T → Moment T K → Type 0
  Restarts m tree next = IsBegin tree next

  -- what one system has and the other hasn't; nothing is renamed
  abbrev pub change_between : ConstraintSystem K U V → ConstraintSystem K U V → Change K U V
  change_between s t = record {
    gone = filter (λ k. not (has same.key t.keys k)) s.keys;
    added = filter (λ k. not (has same.key s.keys k)) t.keys;
    gone_unknowns = filter (λ u. not (has same.unknown t.unknowns u)) s.unknowns;
    added_unknowns = filter (λ u. not (has same.unknown s.unknowns u)) t.unknowns;
    movable = λ _. true;
    shift = λ v. v;
  }

  -- the machine's edit: the steps that the gone constraints taint are taken back, and what was added or aims there waits
  pub record Repairs (m : Moment T K) (tree : T) (next : Moment T K) : Type 0 where
    pub old : ConstraintSystem K U V
    pub of_old : IsSystemOf m.tree old
    pub new : ConstraintSystem K U V
    pub of_new : IsSystemOf tree new
    pub taint : U → Bool
    pub tainted : IsTainted same old new (change_between old new) m.state.steps taint
    pub is : next ≡ record { tree = tree; state = edited same old new (change_between old new) taint m.state }
