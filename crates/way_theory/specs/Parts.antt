-- A whole whose links are its own and those of its parts. Each has one point where it is entered, and for each label one where it is left.
use Rattle.std.specs.Prelude.{◌≡◌, ◌⊎◌, ℕ}
use Rattle.way_theory.specs.Ways.{Way}

-- the links of the whole
pub data Link {P : Type 0} (own : P → P → Type 0) (inside : ℕ → P → P → Type 0) (x y : P) : Type 0 where
  its_own : own x y → Link own inside x y
  of_part : (k : ℕ) → inside k x y → Link own inside x y

-- A first node of a part: the first node on a way from its entry.
pub record IsFirst {P : Type 0} (Inner : P → Type 0) (inside : ℕ → P → P → Type 0) (entry_of : ℕ → P) (k : ℕ) (n : P) : Type 0 where
  pub node : ¬ Inner n
  pub way : Way Inner (inside k) (entry_of k) n

-- A last node of a part before one of its exits.
pub record IsLast {P X : Type 0} (Inner : P → Type 0) (inside : ℕ → P → P → Type 0) (exit_of : ℕ → X → P) (k : ℕ) (e : X) (n : P) : Type 0 where
  pub node : ¬ Inner n
  pub way : Way Inner (inside k) n (exit_of k e)

-- a part is passed from its entry to one of its exits without a node
abbrev pub Passes : {P X : Type 0} → (P → Type 0) → (ℕ → P → P → Type 0) → (ℕ → P) → (ℕ → X → P) → ℕ → X → Type 0
Passes Inner inside entry_of exit_of k e = Way Inner (inside k) (entry_of k) (exit_of k e)

-- The parts of a whole are apart, where IsAt says which points are those of a part.
pub record AreApart {P X : Type 0} (Inner : P → Type 0) (own : P → P → Type 0) (inside : ℕ → P → P → Type 0) (entry : P) (exit : X → P) (entry_of : ℕ → P) (exit_of : ℕ → X → P) (IsAt : ℕ → P → Type 0) : Type 0 where
  pub inside_at : (k : ℕ) (x y : P) → inside k x y → IsAt k x × IsAt k y
  pub one_part : (j k : ℕ) (x : P) → IsAt j x → IsAt k x → j ≡ k
  pub entry_at : (k : ℕ) → IsAt k (entry_of k)
  pub exit_at : (k : ℕ) (e : X) → IsAt k (exit_of k e)
  pub entry_outside : (k : ℕ) → ¬ IsAt k entry
  pub exit_outside : (k : ℕ) (e : X) → ¬ IsAt k (exit e)
  -- the whole's own links lead into its parts by their entries, and out of them by their exits; its other inner points are its own
  pub own_from : (x y : P) → own x y → Inner x → ((k : ℕ) → ¬ IsAt k x) ⊎ ((k : ℕ) × (e : X) × (x ≡ exit_of k e))
  pub own_to : (x y : P) → own x y → Inner y → ((k : ℕ) → ¬ IsAt k y) ⊎ ((k : ℕ) × (y ≡ entry_of k))

-- The steps of a whole that knows of each part its first and last nodes, and to which exits it is passed:
pub data Step {P X : Type 0} (own : P → P → Type 0) (entry_of : ℕ → P) (exit_of : ℕ → X → P) (first : ℕ → P → Type 0) (last : ℕ → X → P → Type 0) (passes : ℕ → X → Type 0) (x y : P) : Type 0 where
  -- a link of its own
  own_link : own x y → Step own entry_of exit_of first last passes x y
  -- from the entry of a part to a first node of it
  enter : (k : ℕ) → x ≡ entry_of k → first k y → Step own entry_of exit_of first last passes x y
  -- from a last node of a part to its exit
  leave : (k : ℕ) (e : X) → y ≡ exit_of k e → last k e x → Step own entry_of exit_of first last passes x y
  -- through a part that is passed
  pass : (k : ℕ) (e : X) → x ≡ entry_of k → y ≡ exit_of k e → passes k e → Step own entry_of exit_of first last passes x y
