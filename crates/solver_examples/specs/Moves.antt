-- A system that two edits turn one way and back: they take away and add constraints and unknowns, and rename values.
use Rattle.std.specs.Prelude.{ℕ, Bool, true, false, cond, not, nat_eq, nat_lt, List, [], ◌∷◌}
use Rattle.std.specs.Ordering.{nat_cmp}
use Rattle.std.specs.declared.cmp.Ordering.{Ordering}
use Rattle.constraint_theory.specs.Systems.{ConstraintSystem}
use Rattle.constraint_theory.specs.Edits.{Change}
use Rattle.solver_examples.specs.Examples.{Pair, each_reads_one, union}

-- what each key reads, and its target, whichever way the system is turned
abbrev pub moving_source : ℕ → ℕ
moving_source k = cond (nat_eq k 1) 1 (cond (nat_eq k 3) 3 (cond (nat_eq k 5) 4 (cond (nat_lt k 3) 0 2)))

abbrev pub moving_target : ℕ → ℕ
moving_target k = cond (nat_eq k 0) 1 (cond (nat_eq k 2) 3 (cond (nat_eq k 4) 4 (cond (nat_eq k 6) 5 2)))

-- Unturned: 1 is 0 with the number 0, 3 is 0 with the number 1, 2 is above both, and 4 and 2 are above each other.
-- Turned: 3 and its keys 2 and 3 are gone, and with them the number 1; what was the number 0 is called 1. Key 6 is added, in
-- their place: 5 is 2 with the number that is called 0 now.
abbrev pub moving_unknowns : Bool → List ℕ
moving_unknowns false = 0 ∷ 1 ∷ 2 ∷ 3 ∷ 4 ∷ []
moving_unknowns true = 0 ∷ 1 ∷ 2 ∷ 4 ∷ 5 ∷ []

abbrev pub moving_keys : Bool → List ℕ
moving_keys false = 0 ∷ 1 ∷ 2 ∷ 3 ∷ 4 ∷ 5 ∷ []
moving_keys true = 0 ∷ 1 ∷ 6 ∷ 4 ∷ 5 ∷ []

abbrev pub moving_transfer : Bool → ℕ → Pair → Pair
moving_transfer false k a = union (nat_eq k 0, nat_eq k 2) a
moving_transfer true k a = union (nat_eq k 6, nat_eq k 0) a

abbrev pub moving : Bool → ConstraintSystem ℕ ℕ Pair
moving turned = each_reads_one (moving_unknowns turned) (moving_keys turned) moving_source moving_target (moving_transfer turned)

-- where a key stands among all
abbrev pub moving_place : ℕ → ℕ
moving_place k = cond (nat_eq k 6) 2 k

abbrev pub moving_order : ℕ → ℕ → Ordering
moving_order a b = nat_cmp (moving_place a) (moving_place b)

-- what goes away where the system is turned, and comes back where it is turned back
abbrev pub turn_keys : Bool → List ℕ
turn_keys false = 2 ∷ 3 ∷ []
turn_keys true = 6 ∷ []

abbrev pub turn_unknowns : Bool → List ℕ
turn_unknowns false = 3 ∷ []
turn_unknowns true = 5 ∷ []

-- The edits. Sets without the number that goes away can be renamed: the numbers 0 and 1 change places.
abbrev pub turn : Bool → Change ℕ ℕ Pair
turn turned = record {
  gone = turn_keys turned;
  added = turn_keys (not turned);
  gone_unknowns = turn_unknowns turned;
  added_unknowns = turn_unknowns (not turned);
  movable = λ a. not (cond turned a.0 a.1);
  shift = λ a. (a.1, a.0);
}

-- what the first edit taints where each key was a step: the targets of the keys 2 and 3, and that of key 4, which reads 2
abbrev pub turned_taint : ℕ → Bool
turned_taint u = cond (nat_eq 2 u) true (cond (nat_eq 3 u) true (nat_eq 4 u))

-- the lists that the system gives out
abbrev pub moving_rows : List (List ℕ)
moving_rows =
    [] ∷ (0 ∷ []) ∷ (1 ∷ []) ∷ (2 ∷ []) ∷ (3 ∷ []) ∷ (4 ∷ []) ∷ (5 ∷ []) ∷ (6 ∷ [])
    ∷ (0 ∷ 2 ∷ []) ∷ (2 ∷ 3 ∷ []) ∷ (6 ∷ 4 ∷ []) ∷ (1 ∷ 5 ∷ []) ∷ (1 ∷ 3 ∷ 5 ∷ [])
    ∷ (0 ∷ 1 ∷ 2 ∷ 3 ∷ 4 ∷ []) ∷ (0 ∷ 1 ∷ 2 ∷ 4 ∷ 5 ∷ []) ∷ (0 ∷ 1 ∷ 2 ∷ 3 ∷ 4 ∷ 5 ∷ []) ∷ (0 ∷ 1 ∷ 6 ∷ 4 ∷ 5 ∷ []) ∷ []
