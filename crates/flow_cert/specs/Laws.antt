-- What there is at most one of.
use Rattle.std.specs.Prelude.{◌≡◌, List}
use Rattle.flow_term.specs.declared.term.Term.{Term}
use Rattle.flow_syntax.specs.declared.spec.Spec.{Spec}
use Rattle.flow_syntax.specs.Types.{Typing}
use Rattle.tree_constraints.specs.Laws.{IsAnalysed}
use Rattle.flow_cert.specs.declared.solution.Solution.{Solution}
use Rattle.flow_cert.specs.Solved.{IsSolutionOf}

-- a tree has one solution at most, by a specification that is accepted
abbrev pub SolutionsAreOne : Type 0
SolutionsAreOne = (spec : Spec) (types : List Typing) → IsAnalysed spec types → (tree : Term) (s t : Solution) → IsSolutionOf spec types tree s → IsSolutionOf spec types tree t → s ≡ t
