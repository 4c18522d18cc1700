-- Requests that take files in order: the first that is refused decides, and otherwise what they hold.
use Rattle.std.specs.Prelude.{◌≡◌, ◌≢◌, ◌↔◌, ℕ, List, Option}

-- How a whole output may end: all was done, a file was refused, or the budget was spent.
pub record Ends (How : Type 0) : Type 0 where
  pub done : How
  pub refused : How
  pub spent : How

-- a refusal is none of the other two
pub record AreApart {How : Type 0} (ends : Ends How) : Type 0 where
  pub done : ends.done ≢ ends.refused
  pub spent : ends.spent ≢ ends.refused

-- What the content of a name is: something that is accepted, or nothing, and then a line says why.
pub record FileKind (X : Type 0) : Type 1 where
  pub Accepts : Option (List ℕ) → X → Type 0
  pub Refuses : Option (List ℕ) → List ℕ → Type 0

module _ {How : Type 0} (ends : Ends How) where
  -- The whole output of a request that takes a file and then goes on with what it holds:
  pub data Takes {X : Type 0} (kind : FileKind X) (content : Option (List ℕ)) (Then : X → List ℕ → How → Type 0) (out : List ℕ) (how : How) : Type 0 where
    -- the file is refused, with this line
    is_refused : kind.Refuses content out → how ≡ ends.refused → Takes kind content Then out how
    -- it is accepted
    is_taken : (x : X) → kind.Accepts content x → Then x out how → Takes kind content Then out how

  -- both are refusals, or neither is
  abbrev pub AreAlike : How → How → Type 0
  AreAlike how way = (how ≡ ends.refused) ↔ (way ≡ ends.refused)

  -- any two outputs end alike
  abbrev pub EndAlike : (List ℕ → How → Type 0) → Type 0
  EndAlike Output = (out other : List ℕ) (how way : How) → Output out how → Output other way → AreAlike how way

  -- no output is a refusal
  abbrev pub IsNoRefusal : (List ℕ → How → Type 0) → Type 0
  IsNoRefusal Output = (out : List ℕ) (how : How) → Output out how → how ≢ ends.refused

-- a content isn't both accepted and refused, and is accepted as one thing
pub record IsExclusive {X : Type 0} (kind : FileKind X) : Type 0 where
  pub one : (content : Option (List ℕ)) (x y : X) → kind.Accepts content x → kind.Accepts content y → x ≡ y
  pub apart : (content : Option (List ℕ)) (x : X) (line : List ℕ) → kind.Accepts content x → kind.Refuses content line → ⊥
