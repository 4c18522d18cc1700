-- What each command of a session does.
use Rattle.std.specs.Prelude.{◌≡◌, ◌⊎◌, ℕ, List, [], ◌∷◌, ◌++◌, Option, Some, codes}
use Rattle.constraint_theory.specs.Systems.{Equality, ConstraintSystem}
use Rattle.session_theory.specs.Moments.{Moment, Settles, Spends}

-- The commands of a session, over what an edit is.
pub data Command (E : Type 0) : Type 0 where
  edit : E → Command E
  solve : ℕ → Command E
  print : Command E
  tree : Command E

-- What commands say of trees and moments:
pub record Meaning (T E K : Type 0) : Type 1 where
  -- the edit of the tree is refused, with this text
  pub Refuses : T → E → List ℕ → Type 0
  -- the edit of the tree is accepted, and this is the new tree
  pub Accepts : T → E → T → Type 0
  -- what an edit to this tree leaves of a moment: one of the two ways
  pub IsEdit : Moment T K → T → Moment T K → Type 0
  -- the text of a tree's solution, and its own
  pub IsPrint : T → List ℕ → Type 0
  pub IsText : T → List ℕ → Type 0

-- a word on a line of its own
abbrev pub word_line : List ℕ → List ℕ
word_line word = word ++ 10 ∷ []

module _ {T E K U V : Type 0} (same : Equality K U) (IsSystemOf : T → ConstraintSystem K U V → Type 0) (says : Meaning T E K) (budget : Option ℕ) where
  -- The command writes the text, and leads from one moment to the next.
  abbrev pub Does : Command E → Moment T K → List ℕ → Moment T K → Type 0
  Does (edit e) m text next = (says.Refuses m.tree e text × (next ≡ m)) ⊎ ((new : T) × says.Accepts m.tree e new × says.IsEdit m new next × (text ≡ []))
  Does (solve n) m text next =
      (Settles same IsSystemOf (Some n) m next × (text ≡ word_line (codes "settled"))) ⊎ (Spends same IsSystemOf n m next × (text ≡ word_line (codes "unsettled")))
  Does print m text next = Settles same IsSystemOf budget m next × says.IsPrint next.tree text
  Does tree m text next = says.IsText m.tree text × (next ≡ m)

  -- the budget is spent from this moment on, and something waits
  abbrev pub IsSpent : Moment T K → Type 0
  IsSpent m = (limit : ℕ) × (next : Moment T K) × (budget ≡ Some limit) × Spends same IsSystemOf limit m next

  -- The command may end the run at this moment: it has to settle, and the budget is spent.
  abbrev pub Stops : Command E → Moment T K → Type 0
  Stops print m = IsSpent m
  Stops _ m = ⊥

  -- The commands in turn write the text, and lead from one moment to another.
  abbrev pub Leads : List (Command E) → Moment T K → List ℕ → Moment T K → Type 0
  Leads [] m out next = (out ≡ []) × (next ≡ m)
  Leads (c ∷ cs) m out next = (text : List ℕ) × (rest : List ℕ) × (mid : Moment T K) × Does c m text mid × Leads cs mid rest next × (out ≡ text ++ rest)

-- The edits of commands lead from one tree to another: each is refused, or leads on.
module _ {T E K : Type 0} (says : Meaning T E K) where
  abbrev pub EditsLead : List (Command E) → T → T → Type 0
  EditsLead [] t last = last ≡ t
  EditsLead (edit e ∷ cs) t last = (((text : List ℕ) × says.Refuses t e text) × EditsLead cs t last) ⊎ ((new : T) × says.Accepts t e new × EditsLead cs new last)
  EditsLead (_ ∷ cs) t last = EditsLead cs t last
