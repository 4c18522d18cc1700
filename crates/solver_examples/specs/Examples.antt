-- Systems for the tests: sets of the numbers 0 and 1, and constraints that each read one unknown.
use Rattle.std.specs.Prelude.{ℕ, ◌+◌, Bool, true, false, not, ◌||◌, ◌&&◌, List, [], ◌∷◌}
use Rattle.constraint_theory.specs.Systems.{ConstraintSystem}
use Rattle.constraint_theory.specs.Edits.{Change}

-- which of the numbers 0 and 1 the set holds
abbrev pub Pair : Type 0
Pair = Bool × Bool

abbrev pub union : Pair → Pair → Pair
union a b = (a.0 || b.0, a.1 || b.1)

abbrev pub includes : Pair → Pair → Bool
includes a b = (not a.0 || b.0) && (not a.1 || b.1)

-- how many numbers the set holds
abbrev pub bit : Bool → ℕ
bit true = 1
bit false = 0

abbrev pub size : Pair → ℕ
size a = bit a.0 + bit a.1

-- the system in which each key reads one unknown, its source, and changes the value on the way
abbrev pub each_reads_one : List ℕ → List ℕ → (ℕ → ℕ) → (ℕ → ℕ) → (ℕ → Pair → Pair) → ConstraintSystem ℕ ℕ Pair
each_reads_one unknowns keys source target transfer = record {
  unknowns = unknowns;
  keys = keys;
  target = target;
  reads = λ k. source k ∷ [];
  eval = λ k a. transfer k (a (source k));
  bottom = λ _. (false, false);
  join = λ _ a b. union a b;
  leq = λ _ a b. includes a b;
  fits = λ _ _. true;
  height = λ _. 2;
  rank = λ _ a. size a;
}

-- One unknown that climbs: it holds 0, and 1 where it holds 0.
abbrev pub climb_transfer : ℕ → Pair → Pair
climb_transfer k a = (true, a.0)

abbrev pub climb : ConstraintSystem ℕ ℕ Pair
climb = each_reads_one (0 ∷ []) (0 ∷ []) (λ _. 0) (λ _. 0) climb_transfer

-- what an edit says that changes nothing
abbrev pub no_change : Change ℕ ℕ Pair
no_change = record { gone = []; added = []; gone_unknowns = []; added_unknowns = []; movable = λ _. true; shift = λ a. a }
