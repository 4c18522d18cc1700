-- The whole output of a session.
use Rattle.std.specs.Prelude.{◌≡◌, ℕ, List, ◌∷◌, ◌++◌, Option}
use Rattle.constraint_theory.specs.Systems.{Equality, ConstraintSystem}
use Rattle.session_theory.specs.Commands.{Command, Leads, Meaning, Stops}
use Rattle.session_theory.specs.Files.{Ends}
use Rattle.session_theory.specs.Moments.{IsBegin, Moment}

module _ {T E K U V How : Type 0} (ends : Ends How) (same : Equality K U) (IsSystemOf : T → ConstraintSystem K U V → Type 0) (says : Meaning T E K) (budget : Option ℕ) where
  -- The whole output of commands from a moment on, and how it ends:
  pub data Outputs (cs : List (Command E)) (m : Moment T K) (out : List ℕ) (how : How) : Type 0 where
    -- all were done
    all : (next : Moment T K) → Leads same IsSystemOf says budget cs m out next → how ≡ ends.done → Outputs cs m out how
    -- one of them ended the run; of it nothing is written
    stopped : (front back : List (Command E)) (c : Command E) (mid : Moment T K) → cs ≡ front ++ c ∷ back → Leads same IsSystemOf says budget front m out mid → Stops same IsSystemOf says budget c mid
        → how ≡ ends.spent → Outputs cs m out how

  -- The whole output of the session of commands that begins with a tree, and how it ends.
  pub record SessionOutput (tree : T) (cs : List (Command E)) (out : List ℕ) (how : How) : Type 0 where
    pub start : Moment T K
    pub begins : IsBegin same IsSystemOf tree start
    pub output : Outputs cs start out how
