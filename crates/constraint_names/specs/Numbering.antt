-- A system under numbers.
use Rattle.std.specs.Prelude.{◌≡◌, ℕ, true, List, map, nat_eq}
use Rattle.list_theory.specs.Lists.{has}
use Rattle.constraint_theory.specs.Systems.{ConstraintSystem}
use Rattle.constraint_names.specs.Naming.{Naming}

-- which numbers are in use, in order, which key and which unknown each stands for, and the number of each unknown
pub record Numbering (L W : Type 0) : Type 0 where
  pub keys : List ℕ
  pub unknowns : List ℕ
  pub key : ℕ → L
  pub unknown : ℕ → W
  pub number : W → ℕ

-- the system whose keys and unknowns are the numbers
abbrev pub numbered : {L W X : Type 0} → ConstraintSystem L W X → Numbering L W → ConstraintSystem ℕ ℕ X
numbered t n = record {
  unknowns = n.unknowns;
  keys = n.keys;
  target = λ k. n.number (t.target (n.key k));
  reads = λ k. map n.number (t.reads (n.key k));
  eval = λ k a. t.eval (n.key k) (λ w. a (n.number w));
  bottom = λ u. t.bottom (n.unknown u);
  join = λ u a b. t.join (n.unknown u) a b;
  leq = λ u a b. t.leq (n.unknown u) a b;
  fits = λ u a. t.fits (n.unknown u) a;
  height = λ u. t.height (n.unknown u);
  rank = λ u a. t.rank (n.unknown u) a;
}

-- the name of each number, with values as they are
abbrev pub names_of : {L W X : Type 0} → Numbering L W → Naming ℕ ℕ X L W X
names_of n = record { key = n.key; unknown = n.unknown; value = λ _ v. v }

-- the numbers in use stand for the system's keys and unknowns in their order, no two keys are one, and the number of each
-- unknown is its own
pub record IsNumbering {L W X : Type 0} (t : ConstraintSystem L W X) (n : Numbering L W) : Type 0 where
  pub keys : map n.key n.keys ≡ t.keys
  pub unknowns : map n.unknown n.unknowns ≡ t.unknowns
  pub own_key : (j k : ℕ) → has nat_eq n.keys j ≡ true → has nat_eq n.keys k ≡ true → n.key j ≡ n.key k → j ≡ k
  pub number : (u : ℕ) → has nat_eq n.unknowns u ≡ true → n.number (n.unknown u) ≡ u
