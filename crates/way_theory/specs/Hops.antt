-- The steps of a whole without the nodes of its parts: what a closure over a few points works out.
use Rattle.std.specs.Prelude.{◌≡◌, ◌⊎◌, ℕ}
use Rattle.way_theory.specs.Ways.{Way}

-- a link of the whole's own, or through a part that is passed
pub data Hop {P X : Type 0} (own : P → P → Type 0) (entry_of : ℕ → P) (exit_of : ℕ → X → P) (passes : ℕ → X → Type 0) (x y : P) : Type 0 where
  own_hop : own x y → Hop own entry_of exit_of passes x y
  pass_hop : (k : ℕ) (e : X) → x ≡ entry_of k → y ≡ exit_of k e → passes k e → Hop own entry_of exit_of passes x y

abbrev pub Hops : {P X : Type 0} → (P → Type 0) → (P → P → Type 0) → (ℕ → P) → (ℕ → X → P) → (ℕ → X → Type 0) → P → P → Type 0
Hops Inner own entry_of exit_of passes = Way Inner (Hop own entry_of exit_of passes)

module _ {P X : Type 0} (Inner : P → Type 0) (own : P → P → Type 0) (entry_of : ℕ → P) (exit_of : ℕ → X → P) (first : ℕ → P → Type 0) (last : ℕ → X → P → Type 0) (passes : ℕ → X → Type 0) where
  -- hops lead from the point, or from an exit of a part of which it is a last node
  abbrev pub Leads : P → P → Type 0
  Leads a c = Hops Inner own entry_of exit_of passes a c ⊎ ((i : ℕ) × (e : X) × last i e a × ((c ≡ exit_of i e) ⊎ Hops Inner own entry_of exit_of passes (exit_of i e) c))

  -- such hops lead to the point, or to the entry of a part of which it is a first node
  abbrev pub Arrives : P → P → Type 0
  Arrives a c = Leads a c ⊎ ((k : ℕ) × Leads a (entry_of k) × first k c)
