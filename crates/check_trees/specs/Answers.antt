-- What an answer says of a tree.
use Rattle.std.specs.Prelude.{◌≡◌, ℕ, List, Option, Result, Ok, Err}
use Rattle.flow_term.specs.declared.term.Term.{Term}
use Rattle.flow_syntax.specs.declared.signature.Signature.{Signature}
use Rattle.tree_fitting.specs.Fits.{TreeFits}
use Rattle.tree_fitting.specs.Least.{IsLeastMisfit}
use Rattle.check_trees.specs.declared.refusal.TreeRefusal.{TreeRefusal}
use Rattle.check_trees.specs.declared.refusal.TreeRefusal.TheVariants.{IllSorted, NoMemory}

-- An answer is right: a tree that is accepted fits, and a path that is refused is the least that misfits.
abbrev pub IsRight : Option Signature → Term → Result (Unit {0}) TreeRefusal → Type 0
IsRight signature tree (Ok done) = TreeFits signature tree
IsRight signature tree (Err (IllSorted path)) = IsLeastMisfit signature tree path
IsRight signature tree (Err NoMemory) = Unit {0}

-- The answer is to accept, unless memory ran out.
abbrev pub Accepts : Result (Unit {0}) TreeRefusal → Type 0
Accepts (Ok done) = Unit {0}
Accepts (Err (IllSorted path)) = ⊥
Accepts (Err NoMemory) = Unit {0}

-- The answer is to refuse this path, unless memory ran out.
abbrev pub Refuses : Result (Unit {0}) TreeRefusal → List ℕ → Type 0
Refuses (Ok done) path = ⊥
Refuses (Err (IllSorted refused)) path = refused ≡ path
Refuses (Err NoMemory) path = Unit {0}
