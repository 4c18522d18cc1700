-- The laws of sessions, each as one sentence.
use Rattle.std.specs.Prelude.{◌≡◌, ◌⊎◌, ℕ, ◌<◌, List, ◌++◌, Option, Some, None}
use Rattle.constraint_theory.specs.Systems.{Equality, ConstraintSystem, Fitting, IsKey, IsLawful, IsLeast, Reads, bound}
use Rattle.constraint_theory.specs.Machine.{replay}
use Rattle.session_theory.specs.Commands.{Command, EditsLead, Leads, Meaning}
use Rattle.session_theory.specs.Files.{AreApart, EndAlike, Ends, FileKind, IsExclusive, IsNoRefusal, Takes}
use Rattle.session_theory.specs.Moments.{AreVisits, IsSoundMoment, Moment, Repairs, Restarts, Settles, Spends}
use Rattle.session_theory.specs.Outputs.{Outputs, SessionOutput}

module _ {T K U V : Type 0} (same : Equality K U) (IsSystemOf : T → ConstraintSystem K U V → Type 0) where
  -- WHAT IS ASKED

  -- the constraints of each tree are lawful, and a tree has no two systems
  pub record AreSystems : Type 0 where
    pub lawful : (t : T) (s : ConstraintSystem K U V) → IsSystemOf t s → IsLawful same s
    pub one : (t : T) (s other : ConstraintSystem K U V) → IsSystemOf t s → IsSystemOf t other → s ≡ other

  -- Keys and unknowns mean the same in each tree, as where a key is a record of all that enters its constraint.
  pub record MeanTheSame : Type 0 where
    pub target : (t t' : T) (s s' : ConstraintSystem K U V) → IsSystemOf t s → IsSystemOf t' s' → (k : K) → s'.target k ≡ s.target k
    pub reads : (t t' : T) (s s' : ConstraintSystem K U V) → IsSystemOf t s → IsSystemOf t' s' → (k : K) → s'.reads k ≡ s.reads k
    pub eval : (t t' : T) (s s' : ConstraintSystem K U V) → IsSystemOf t s → IsSystemOf t' s' → (k : K) (a b : U → V) → IsKey same s k → IsKey same s' k → Fitting same s a → Fitting same s' b
        → ((u : U) → Reads same s k u → b u ≡ a u) → s'.eval k b ≡ s.eval k a
    pub bottom : (t t' : T) (s s' : ConstraintSystem K U V) → IsSystemOf t s → IsSystemOf t' s' → (u : U) → s'.bottom u ≡ s.bottom u
    pub join : (t t' : T) (s s' : ConstraintSystem K U V) → IsSystemOf t s → IsSystemOf t' s' → (u : U) (a b : V) → s'.join u a b ≡ s.join u a b
    pub leq : (t t' : T) (s s' : ConstraintSystem K U V) → IsSystemOf t s → IsSystemOf t' s' → (u : U) (a b : V) → s'.leq u a b ≡ s.leq u a b

  -- edits leave sound moments, and the new tree
  pub record AreEdits {E : Type 0} (says : Meaning T E K) : Type 0 where
    pub sound : (m next : Moment T K) (new : T) → IsSoundMoment same IsSystemOf m → says.IsEdit m new next → IsSoundMoment same IsSystemOf next
    pub put : (m next : Moment T K) (new : T) → says.IsEdit m new next → next.tree ≡ new

  -- OF MOMENTS

  -- visits keep a moment sound
  abbrev pub VisitsKeepMomentsSound : Type 0
  VisitsKeepMomentsSound = (n : ℕ) (m next : Moment T K) → IsSoundMoment same IsSystemOf m → AreVisits same IsSystemOf n m next → IsSoundMoment same IsSystemOf next

  -- from a sound moment some visits lead to one in which nothing waits
  abbrev pub SettlesInTheEnd : Type 0
  SettlesInTheEnd = (m : Moment T K) → IsSoundMoment same IsSystemOf m → (next : Moment T K) × Settles same IsSystemOf None m next

  -- and within each limit nothing waits, or the limit is spent
  abbrev pub SettlesOrSpends : Type 0
  SettlesOrSpends = (limit : ℕ) (m : Moment T K) → IsSoundMoment same IsSystemOf m → (next : Moment T K) × (Settles same IsSystemOf (Some limit) m next ⊎ Spends same IsSystemOf limit m next)

  -- a limit that is spent is below the bound of the tree
  abbrev pub SpentIsBelowBound : Type 0
  SpentIsBelowBound = (limit : ℕ) (m next : Moment T K) (s : ConstraintSystem K U V) → IsSoundMoment same IsSystemOf m → IsSystemOf m.tree s → Spends same IsSystemOf limit m next → limit < bound same s

  -- where nothing waits, the values are the least solution of the present tree, whatever led there
  abbrev pub SettledIsLeast : Type 0
  SettledIsLeast = (limit : Option ℕ) (m next : Moment T K) (s : ConstraintSystem K U V) → IsSoundMoment same IsSystemOf m → Settles same IsSystemOf limit m next → IsSystemOf m.tree s
      → (next.tree ≡ m.tree) × IsLeast same s (replay same s next.state.steps)

  -- OF EDITS

  -- an edit that begins anew leaves a sound moment
  abbrev pub RestartsAreSound : Type 0
  RestartsAreSound = (m next : Moment T K) (new : T) → Restarts same IsSystemOf m new next → IsSoundMoment same IsSystemOf next

  -- and so does one that repairs
  abbrev pub RepairsAreSound : Type 0
  RepairsAreSound = (m next : Moment T K) (new : T) → IsSoundMoment same IsSystemOf m → Repairs same IsSystemOf m new next → IsSoundMoment same IsSystemOf next

  -- where both trees have their constraints, each moment can be repaired
  abbrev pub RepairsExist : Type 0
  RepairsExist = (m : Moment T K) (new : T) (s t : ConstraintSystem K U V) → IsSystemOf m.tree s → IsSystemOf new t → (next : Moment T K) × Repairs same IsSystemOf m new next

  -- OF COMMANDS

  module _ {E : Type 0} (says : Meaning T E K) where
    -- the moment is there after the first of the commands
    abbrev pub IsReached : Option ℕ → List (Command E) → Moment T K → Moment T K → Type 0
    IsReached budget cs m mid = (front : List (Command E)) × (back : List (Command E)) × (text : List ℕ) × (cs ≡ front ++ back) × Leads same IsSystemOf says budget front m text mid

    -- commands keep moments sound
    abbrev pub CommandsKeepMomentsSound : Type 0
    CommandsKeepMomentsSound = (budget : Option ℕ) (cs : List (Command E)) (m next : Moment T K) (text : List ℕ) → IsSoundMoment same IsSystemOf m → Leads same IsSystemOf says budget cs m text next
        → IsSoundMoment same IsSystemOf next

    -- the present tree follows from the edits alone
    abbrev pub TreesFollowEdits : Type 0
    TreesFollowEdits = (budget : Option ℕ) (cs : List (Command E)) (m next : Moment T K) (text : List ℕ) → Leads same IsSystemOf says budget cs m text next → EditsLead says cs m.tree next.tree

    module _ {How : Type 0} (ends : Ends How) where
      -- what commands wrote, and then an output of the others, is an output of all
      abbrev pub OutputsGoOn : Type 0
      OutputsGoOn = (budget : Option ℕ) (cs rest : List (Command E)) (m mid : Moment T K) (text out : List ℕ) (how : How) → Leads same IsSystemOf says budget cs m text mid
          → Outputs ends same IsSystemOf says budget rest mid out how → Outputs ends same IsSystemOf says budget (cs ++ rest) m (text ++ out) how

      -- an output that ends with the budget has its cause: a budget is named, and it is below the bound of the tree that is present at the command that stopped
      abbrev pub SpentHasCause : Type 0
      SpentHasCause = (budget : Option ℕ) (cs : List (Command E)) (m : Moment T K) (out : List ℕ) (how : How) → IsSoundMoment same IsSystemOf m → Outputs ends same IsSystemOf says budget cs m out how
          → (how ≡ ends.done) ⊎ ((n : ℕ) × (mid : Moment T K) × (s : ConstraintSystem K U V) × (how ≡ ends.spent) × (budget ≡ Some n) × IsReached budget cs m mid × IsSystemOf mid.tree s × (n < bound same s))

      -- the output of a session is no refusal, where the ends are told apart
      abbrev pub SessionsRefuseNothing : Type 0
      SessionsRefuseNothing = AreApart ends → (budget : Option ℕ) (tree : T) (cs : List (Command E)) → IsNoRefusal ends (SessionOutput ends same IsSystemOf says budget tree cs)

-- OF FILES

-- A request that takes a file ends alike, whatever is held, where what follows does: two whole outputs of it are refusals both, or neither is.
abbrev pub RequestsEndAlike : {X How : Type 0} → Ends How → FileKind X → (X → List ℕ → How → Type 0) → Type 0
RequestsEndAlike {X} ends kind Then = IsExclusive kind → ((x : X) → EndAlike ends (Then x)) → (content : Option (List ℕ)) → EndAlike ends (Takes ends kind content Then)

-- what refuses nothing ends alike
abbrev pub NoRefusalsEndAlike : {How : Type 0} → Ends How → (List ℕ → How → Type 0) → Type 0
NoRefusalsEndAlike ends Output = IsNoRefusal ends Output → EndAlike ends Output
