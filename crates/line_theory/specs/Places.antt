-- Texts whose lines before a line tell which lines may stand in its place: they are whole, or one line of them is the first fault.
use Rattle.std.specs.Prelude.{◌≡◌, ℕ, ◌+◌, List, [], ◌∷◌, ◌++◌, length}

-- Fits p line q: the line may stand at the place p, and then q is the place of the next one. IsLast p: nothing need stand there.
module _ {P L : Type 0} (Fits : P → L → P → Type 0) (IsLast : P → Type 0) where
  -- the lines in turn lead from a place to another
  abbrev pub LeadTo : P → List L → P → Type 0
  LeadTo p [] q = q ≡ p
  LeadTo p (l ∷ ls) q = (r : P) × Fits p l r × LeadTo r ls q

  -- the lines from a place on are whole
  abbrev pub AreWhole : P → List L → Type 0
  AreWhole p ls = (q : P) × LeadTo p ls q × IsLast q

  -- what stands at a place is none of the lines that may: a line that doesn't fit, or nothing where something is to come
  abbrev pub IsWrong : P → List L → Type 0
  IsWrong q [] = ¬ IsLast q
  IsWrong q (l ∷ ls) = (r : P) → ¬ Fits q l r

  -- The first fault of the lines stands at this place, has this number, counted from 1, and these lines from it on.
  pub record IsFaultAt (p : P) (ls : List L) (q : P) (number : ℕ) (back : List L) : Type 0 where
    pub front : List L
    pub split : ls ≡ front ++ back
    pub leads : LeadTo p front q
    pub wrong : IsWrong q back
    pub is : number ≡ 1 + length front

  -- a place and a line have one next place, and behind the last line nothing may stand
  pub record IsDeterministic : Type 0 where
    pub one : (p q r : P) (l : L) → Fits p l q → Fits p l r → q ≡ r
    pub ends : (p q : P) (l : L) → IsLast p → ¬ Fits p l q
