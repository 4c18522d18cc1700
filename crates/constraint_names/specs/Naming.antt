-- One system under the keys, unknowns and values of another.
use Rattle.std.specs.Prelude.{◌≡◌, map}
use Rattle.list_theory.specs.Lists.{has}
use Rattle.constraint_theory.specs.Systems.{ConstraintSystem, Equality, Fits, Fitting, IsKey, IsUnknown, Reads}
use Rattle.constraint_theory.specs.Machine.{State}

-- what each key and each unknown of one system is called in another, and for which value there one at an unknown stands
pub record Naming (K U V L W X : Type 0) : Type 0 where
  pub key : K → L
  pub unknown : U → W
  pub value : U → V → X

-- the state in which each step and each waiting key goes by its name
abbrev pub named : {K L : Type 0} → (K → L) → State K → State L
named name st = record { steps = map name st.steps; waiting = map name st.waiting }

module _ {K U V L W X : Type 0} (same : Equality K U) (other : Equality L W) (s : ConstraintSystem K U V) (t : ConstraintSystem L W X) (n : Naming K U V L W X) where
  -- at the name of each unknown in use the second assignment has the value for which the first one's stands
  abbrev pub Agrees : (U → V) → (W → X) → Type 0
  Agrees a b = (u : U) → IsUnknown same s u → b (n.unknown u) ≡ n.value u (a u)

  -- The second system is the first by name: the same keys and unknowns in the same order, no two of one name; targets and
  -- reads by name; values that fit stand for values that fit; and bottom, joins, the order and what constraints give
  -- are, by name, those of the second.
  pub record IsNamed : Type 0 where
    pub keys : map n.key s.keys ≡ t.keys
    pub unknowns : map n.unknown s.unknowns ≡ t.unknowns
    pub own_key : (j k : K) → IsKey same s j → IsKey same s k → n.key j ≡ n.key k → j ≡ k
    pub own_unknown : (u v : U) → IsUnknown same s u → IsUnknown same s v → n.unknown u ≡ n.unknown v → u ≡ v
    pub target_used : (k : K) → IsKey same s k → IsUnknown same s (s.target k)
    pub reads_used : (k : K) (u : U) → IsKey same s k → Reads same s k u → IsUnknown same s u
    pub target : (k : K) → IsKey same s k → t.target (n.key k) ≡ n.unknown (s.target k)
    pub reads : (k : K) (w : W) → IsKey same s k → has other.unknown (t.reads (n.key k)) w ≡ has other.unknown (map n.unknown (s.reads k)) w
    pub fits : (u : U) (a : V) → IsUnknown same s u → Fits s u a → Fits t (n.unknown u) (n.value u a)
    pub bottom : (u : U) → IsUnknown same s u → t.bottom (n.unknown u) ≡ n.value u (s.bottom u)
    pub join : (u : U) (a b : V) → IsUnknown same s u → Fits s u a → Fits s u b → t.join (n.unknown u) (n.value u a) (n.value u b) ≡ n.value u (s.join u a b)
    pub leq : (u : U) (a b : V) → IsUnknown same s u → Fits s u a → Fits s u b → t.leq (n.unknown u) (n.value u a) (n.value u b) ≡ s.leq u a b
    pub eval : (k : K) (a : U → V) (b : W → X) → IsKey same s k → Fitting same s a → Agrees a b → t.eval (n.key k) b ≡ n.value (s.target k) (s.eval k a)

  -- heights and ranks are those of the names
  pub record HasNamedRanks : Type 0 where
    pub height : (u : U) → IsUnknown same s u → t.height (n.unknown u) ≡ s.height u
    pub rank : (u : U) (a : V) → IsUnknown same s u → Fits s u a → t.rank (n.unknown u) (n.value u a) ≡ s.rank u a

-- Bottom fits, and joins and constraints keep to values that fit; no two of these stand for one value.
pub record IsFaithful {K U V X : Type 0} (same : Equality K U) (s : ConstraintSystem K U V) (value : U → V → X) : Type 0 where
  pub bottom_fits : (u : U) → IsUnknown same s u → Fits s u (s.bottom u)
  pub join_fits : (u : U) (a b : V) → IsUnknown same s u → Fits s u a → Fits s u b → Fits s u (s.join u a b)
  pub eval_fits : (k : K) (a : U → V) → IsKey same s k → Fitting same s a → Fits s (s.target k) (s.eval k a)
  pub own_value : (u : U) (a b : V) → IsUnknown same s u → Fits s u a → Fits s u b → value u a ≡ value u b → a ≡ b
