-- What an engine is, and what its parts keep.
use Rattle.std.specs.Prelude.{◌≡◌, ℕ, ◌<◌, Bool, true, false, List, length, map, Option, Some, None, slice_index_or}
use Rattle.list_theory.specs.Lists.{has}
use Rattle.index_lists.specs.Queues.{Queue}
use Rattle.constraint_theory.specs.Systems.{ConstraintSystem, IsKey, IsUnknown, numbers}
use Rattle.constraint_theory.specs.Machine.{State, IsSound, replay}
use Rattle.flow_solver.specs.Plans.{Plan, Room}

-- a system, what chooses among the keys that wait, the state of the machine that solves the system, what is made ready
-- for an edit, and what has room
pub record Solving (S P V : Type 0) : Type 0 where
  pub system : S
  pub pick : P
  pub state : State ℕ
  pub plan : Plan V
  pub room : Room

-- a system and the steps that were made, each the key whose value was joined to its target's; and the numbers below
-- which keys and unknowns have room
pub record Replayed (S : Type 0) : Type 0 where
  pub system : S
  pub steps : List ℕ
  pub keys : ℕ
  pub unknowns : ℕ

-- the keys of a trace, whose steps are pairs of target and key
abbrev pub keys_of : List (ℕ × ℕ) → List ℕ
keys_of trace = map (λ step. step.1) trace

-- the trace of steps: each with its target
abbrev pub trace_of : {V : Type 0} → ConstraintSystem ℕ ℕ V → List ℕ → List (ℕ × ℕ)
trace_of s steps = map (λ k. (s.target k, k)) steps

-- the state of steps and a queue
abbrev pub state_of : List ℕ → Queue → State ℕ
state_of steps queue = record { steps = steps; waiting = queue.items }

module _ {V : Type 0} (s : ConstraintSystem ℕ ℕ V) where
  -- the kept values are the replay of the trace, at the unknowns in use and at no other; its steps are keys
  pub record AreReplayed (values : List (Option V)) (trace : List (ℕ × ℕ)) : Type 0 where
    pub known : (k : ℕ) → has numbers.key (keys_of trace) k ≡ true → IsKey numbers s k
    pub paired : trace ≡ trace_of s (keys_of trace)
    pub there : (u : ℕ) → IsUnknown numbers s u → slice_index_or values u None ≡ Some (replay numbers s (keys_of trace) u)
    pub absent : (u : ℕ) → has numbers.unknown s.unknowns u ≡ false → slice_index_or values u None ≡ None

  -- the same, with a mark for each key that says whether it is among the steps
  pub record IsProgress (values : List (Option V)) (trace : List (ℕ × ℕ)) (made : List Bool) : Type 0 where
    pub replayed : AreReplayed values trace
    pub marked : (k : ℕ) → slice_index_or made k false ≡ has numbers.key (keys_of trace) k
    pub markable : (k : ℕ) → IsKey numbers s k → k < length made

  -- each key may wait, and the state is sound
  pub record IsEngine (steps : List ℕ) (queue : Queue) : Type 0 where
    pub allowed : (k : ℕ) → IsKey numbers s k → k < queue.allowed
    pub sound : IsSound numbers s (state_of steps queue)
