-- Systems of constraints over lattices, what solves them, and the laws that they meet.
use Rattle.std.specs.Prelude.{◌≡◌, ℕ, ◌+◌, ◌*◌, ◌<◌, ◌≤◌, Bool, true, false, List, filter, length, nat_eq, sum_by}
use Rattle.list_theory.specs.Lists.{IsExact, has, distinct}

-- how keys and unknowns are told apart
pub record Equality (K U : Type 0) : Type 0 where
  pub key : K → K → Bool
  pub unknown : U → U → Bool

-- both tests tell what is equal
pub record IsEquality {K U : Type 0} (same : Equality K U) : Type 0 where
  pub keys : IsExact same.key
  pub unknowns : IsExact same.unknown

-- keys and unknowns that are numbers
abbrev pub numbers : Equality ℕ ℕ
numbers = record { key = nat_eq; unknown = nat_eq }

-- A constraint for each key: the value of its target is to be above what `eval` gives under the values of the unknowns
-- that the key reads. Each unknown has a lattice, a test of which values fit it, a height, and a rank of each value.
pub record ConstraintSystem (K U V : Type 0) : Type 0 where
  pub unknowns : List U
  pub keys : List K
  pub target : K → U
  pub reads : K → List U
  pub eval : K → (U → V) → V
  pub bottom : U → V
  pub join : U → V → V → V
  pub leq : U → V → V → Bool
  pub fits : U → V → Bool
  pub height : U → ℕ
  pub rank : U → V → ℕ

-- the value fits the unknown
abbrev pub Fits : {K U V : Type 0} → ConstraintSystem K U V → U → V → Type 0
Fits s u v = s.fits u v ≡ true

-- An assignment is a function from unknowns to values. Only its values at the unknowns in use are spoken of.
module _ {K U V : Type 0} (same : Equality K U) (s : ConstraintSystem K U V) where
  -- the key is in use
  abbrev pub IsKey : K → Type 0
  IsKey k = has same.key s.keys k ≡ true

  -- the unknown is in use
  abbrev pub IsUnknown : U → Type 0
  IsUnknown u = has same.unknown s.unknowns u ≡ true

  -- the constraint of the key reads the unknown
  abbrev pub Reads : K → U → Type 0
  Reads k u = has same.unknown (s.reads k) u ≡ true

  -- the keys that read the unknown, in order of keys
  abbrev pub readers : U → List K
  readers u = filter (λ k. has same.unknown (s.reads k) u) s.keys

  -- the keys whose target the unknown is, in order of keys
  abbrev pub aiming : U → List K
  aiming u = filter (λ k. same.unknown (s.target k) u) s.keys

  -- each unknown has a value that fits
  abbrev pub Fitting : (U → V) → Type 0
  Fitting a = (u : U) → IsUnknown u → Fits s u (a u)

  -- the first assignment is below the second at each unknown
  abbrev pub AllBelow : (U → V) → (U → V) → Type 0
  AllBelow a b = (u : U) → IsUnknown u → s.leq u (a u) (b u) ≡ true

  -- whether the constraint of the key is satisfied: its value is below its target's
  abbrev pub holds : (U → V) → K → Bool
  holds a k = s.leq (s.target k) (s.eval k a) (a (s.target k))

  -- each constraint is satisfied
  abbrev pub Satisfies : (U → V) → Type 0
  Satisfies a = (k : K) → IsKey k → holds a k ≡ true

  -- the least of the fitting assignments that satisfy each constraint
  pub record IsLeast (a : U → V) : Type 0 where
    pub fits : Fitting a
    pub satisfies : Satisfies a
    pub below_others : (b : U → V) → Fitting b → Satisfies b → AllBelow a b

  -- the number of keys, and for each unknown its height times the number of its readers
  abbrev pub bound : ℕ
  bound = length s.keys + sum_by (λ u. s.height u * length (readers u)) s.unknowns

  -- The laws of order: no key stands twice; targets and reads are in use; a join lattice at each unknown, on the values
  -- that fit; constraints that are monotone on them and depend on what they read alone. A least solution needs no more.
  pub record IsMonotone : Type 0 where
    pub keys_once : distinct same.key s.keys ≡ true
    pub target_used : (k : K) → IsKey k → IsUnknown (s.target k)
    pub reads_used : (k : K) (u : U) → IsKey k → Reads k u → IsUnknown u
    pub bottom_fits : (u : U) → IsUnknown u → Fits s u (s.bottom u)
    pub join_fits : (u : U) (a b : V) → IsUnknown u → Fits s u a → Fits s u b → Fits s u (s.join u a b)
    pub eval_fits : (k : K) (a : U → V) → IsKey k → Fitting a → Fits s (s.target k) (s.eval k a)
    pub leq_join : (u : U) (a b : V) → IsUnknown u → Fits s u a → Fits s u b → s.leq u a b ≡ true → s.join u a b ≡ b
    pub join_leq : (u : U) (a b : V) → IsUnknown u → Fits s u a → Fits s u b → s.join u a b ≡ b → s.leq u a b ≡ true
    pub idempotent : (u : U) (a : V) → IsUnknown u → Fits s u a → s.join u a a ≡ a
    pub commutative : (u : U) (a b : V) → IsUnknown u → Fits s u a → Fits s u b → s.join u a b ≡ s.join u b a
    pub associative : (u : U) (a b c : V) → IsUnknown u → Fits s u a → Fits s u b → Fits s u c → s.join u (s.join u a b) c ≡ s.join u a (s.join u b c)
    pub neutral : (u : U) (a : V) → IsUnknown u → Fits s u a → s.join u (s.bottom u) a ≡ a
    pub eval_monotone : (k : K) (a b : U → V) → IsKey k → Fitting a → Fitting b → AllBelow a b → s.leq (s.target k) (s.eval k a) (s.eval k b) ≡ true
    pub eval_reads : (k : K) (a b : U → V) → IsKey k → Fitting a → Fitting b → ((u : U) → Reads k u → a u ≡ b u) → s.eval k a ≡ s.eval k b

  -- the laws of ranks: on the values that fit, a rank is at most the height, and rises strictly with the value
  pub record AreRanks : Type 0 where
    pub rank_within : (u : U) (a : V) → IsUnknown u → Fits s u a → s.rank u a ≤ s.height u
    pub rank_rises : (u : U) (a b : V) → IsUnknown u → Fits s u a → Fits s u b → s.leq u a b ≡ true → s.leq u b a ≡ false → s.rank u a < s.rank u b

  -- a system that is monotone, and whose values can rise no more often than its heights say
  pub record IsLawful : Type 0 where
    pub monotone : IsMonotone
    pub ranks : AreRanks

-- the system with another test of which values fit
abbrev pub with_test : {K U V : Type 0} → ConstraintSystem K U V → (U → V → Bool) → ConstraintSystem K U V
with_test s test = record s { fits = test }

-- The values that fit are valid by a wider test, bottom fits, and joins and constraints keep to what fits.
pub record IsNarrower {K U V : Type 0} (same : Equality K U) (s : ConstraintSystem K U V) (valid : U → V → Bool) : Type 0 where
  pub valid_too : (u : U) (a : V) → IsUnknown same s u → Fits s u a → valid u a ≡ true
  pub bottom_fits : (u : U) → IsUnknown same s u → Fits s u (s.bottom u)
  pub join_fits : (u : U) (a b : V) → IsUnknown same s u → Fits s u a → Fits s u b → Fits s u (s.join u a b)
  pub eval_fits : (k : K) (a : U → V) → IsKey same s k → Fitting same s a → Fits s (s.target k) (s.eval k a)

-- the order at an unknown is that of a lattice with these valid values, bottom and joins
pub record IsOver {K U V : Type 0} (s : ConstraintSystem K U V) (u : U) (Valid : V → Type 0) (least : V) (joined : V → V → V) : Type 0 where
  pub valid : (v : V) → Fits s u v → Valid v
  pub bottom_is : s.bottom u ≡ least
  pub join_is : (a b : V) → Fits s u a → Fits s u b → s.join u a b ≡ joined a b
