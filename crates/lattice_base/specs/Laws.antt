-- What a lattice keeps, over the values that are valid for it.
use Rattle.std.specs.Prelude.{◌≡◌, ◌↔◌}

-- bottom and joins are valid; join is idempotent, commutative and associative; bottom is neutral
pub record JoinLaws {V : Type 0} (Valid : V → Type 0) (least : V) (joined : V → V → V) : Type 0 where
  pub least_valid : Valid least
  pub joined_valid : (a b : V) → Valid a → Valid b → Valid (joined a b)
  pub idempotent : (a : V) → Valid a → joined a a ≡ a
  pub commutative : (a b : V) → Valid a → Valid b → joined a b ≡ joined b a
  pub associative : (a b c : V) → Valid a → Valid b → Valid c → joined (joined a b) c ≡ joined a (joined b c)
  pub neutral : (a : V) → Valid a → joined least a ≡ a

-- one value is below another exactly where the join of the two is the other
abbrev pub OrderLaw : {V : Type 0} → (V → Type 0) → (V → V → V) → (V → V → Type 0) → Type 0
OrderLaw {V} Valid joined Below = (a b : V) → Valid a → Valid b → Below a b ↔ (joined a b ≡ b)

-- being below is a partial order with a least value, and the join of two values is their least upper bound
pub record IsJoinOrder {V : Type 0} (Valid : V → Type 0) (least : V) (joined : V → V → V) (Below : V → V → Type 0) : Type 0 where
  pub reflexive : (a : V) → Valid a → Below a a
  pub antisymmetric : (a b : V) → Valid a → Valid b → Below a b → Below b a → a ≡ b
  pub transitive : (a b c : V) → Valid a → Valid b → Valid c → Below a b → Below b c → Below a c
  pub least_below : (a : V) → Valid a → Below least a
  pub left_below : (a b : V) → Valid a → Valid b → Below a (joined a b)
  pub right_below : (a b : V) → Valid a → Valid b → Below b (joined a b)
  pub joined_below : (a b c : V) → Valid a → Valid b → Valid c → Below a c → Below b c → Below (joined a b) c
