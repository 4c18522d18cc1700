-- The own links of a list of n parts, and the ways that its steps make. One label of an exit leads on to the next part, all others out of the list.
use Rattle.std.specs.Prelude.{◌≡◌, ◌≢◌, ◌+◌, ◌<◌, ◌≤◌, ℕ}

-- the own links of a list:
pub data ListLink {P X : Type 0} (onward : X) (entry : P) (exit : X → P) (entry_of : ℕ → P) (exit_of : ℕ → X → P) (n : ℕ) (x y : P) : Type 0 where
  -- through the empty list
  no_parts : n ≡ 0 → x ≡ entry → y ≡ exit onward → ListLink onward entry exit entry_of exit_of n x y
  -- into the first part, from each on to the next, and out of the last
  into_first : 0 < n → x ≡ entry → y ≡ entry_of 0 → ListLink onward entry exit entry_of exit_of n x y
  to_next : (k : ℕ) → k + 1 < n → x ≡ exit_of k onward → y ≡ entry_of (k + 1) → ListLink onward entry exit entry_of exit_of n x y
  from_last : (k : ℕ) → k + 1 ≡ n → x ≡ exit_of k onward → y ≡ exit onward → ListLink onward entry exit entry_of exit_of n x y
  -- by another label out of a part and of the list
  out_of_list : (k : ℕ) (e : X) → k < n → e ≢ onward → x ≡ exit_of k e → y ≡ exit e → ListLink onward entry exit entry_of exit_of n x y

-- where a whole and its parts are entered and left
pub data Gate (X : Type 0) : Type 0 where
  whole_entry : Gate X
  whole_exit : X → Gate X
  part_entry : ℕ → Gate X
  part_exit : ℕ → X → Gate X

abbrev pub gate_point : {P X : Type 0} → P → (X → P) → (ℕ → P) → (ℕ → X → P) → Gate X → P
gate_point entry exit entry_of exit_of whole_entry = entry
gate_point entry exit entry_of exit_of (whole_exit e) = exit e
gate_point entry exit entry_of exit_of (part_entry k) = entry_of k
gate_point entry exit entry_of exit_of (part_exit k e) = exit_of k e

-- The entries and exits are inner points, and no two of them are one.
pub record AreDistinct {P X : Type 0} (Inner : P → Type 0) (entry : P) (exit : X → P) (entry_of : ℕ → P) (exit_of : ℕ → X → P) : Type 0 where
  pub inner : (g : Gate X) → Inner (gate_point entry exit entry_of exit_of g)
  pub same : (g h : Gate X) → gate_point entry exit entry_of exit_of g ≡ gate_point entry exit entry_of exit_of h → g ≡ h

-- all parts from s on and before k are passed onward
abbrev pub ArePassed : {X : Type 0} → X → (ℕ → X → Type 0) → ℕ → ℕ → Type 0
ArePassed onward passes s k = (j : ℕ) → s ≤ j → j < k → passes j onward

-- A node is a first one of a part, and all parts from s on before it are passed.
pub record IsFirstFrom {P X : Type 0} (onward : X) (n : ℕ) (first : ℕ → P → Type 0) (passes : ℕ → X → Type 0) (s : ℕ) (m : P) : Type 0 where
  pub k : ℕ
  pub from : s ≤ k
  pub within : k < n
  pub passed : ArePassed onward passes s k
  pub node : first k m

-- From part s on the list is passed to one of its exits:
pub data IsPassedFrom {X : Type 0} (onward : X) (n : ℕ) (passes : ℕ → X → Type 0) (s : ℕ) (e : X) : Type 0 where
  -- onward, where all its parts are
  onward_through : e ≡ onward → ArePassed onward passes s n → IsPassedFrom onward n passes s e
  -- by another label, where a part is passed to it, and all before are passed onward
  out_at : (k : ℕ) → e ≢ onward → s ≤ k → k < n → ArePassed onward passes s k → passes k e → IsPassedFrom onward n passes s e

-- A node is a last one of the list before one of its exits:
pub data IsLastBefore {P X : Type 0} (onward : X) (n : ℕ) (last : ℕ → X → P → Type 0) (passes : ℕ → X → Type 0) (e : X) (m : P) : Type 0 where
  -- of a part, before its exit with that label
  at_label : (k : ℕ) → e ≢ onward → last k e m → IsLastBefore onward n last passes e m
  -- of a part, before its way onward, behind which the list is passed
  then_passed : (k : ℕ) → last k onward m → IsPassedFrom onward n passes (k + 1) e → IsLastBefore onward n last passes e m

-- A node is a last one of a part before its way onward, another a first one of a later part, and all parts between are passed.
pub record IsBetween {P X : Type 0} (onward : X) (n : ℕ) (first : ℕ → P → Type 0) (last : ℕ → X → P → Type 0) (passes : ℕ → X → Type 0) (a b : P) : Type 0 where
  pub i : ℕ
  pub source : last i onward a
  pub target : IsFirstFrom onward n first passes (i + 1) b
