-- What is printed of a tree.
use Rattle.std.specs.Prelude.{◌≡◌, ℕ, List}
use Rattle.flow_term.specs.declared.term.Term.{Term}
use Rattle.flow_syntax.specs.declared.spec.Spec.{Spec}
use Rattle.flow_syntax.specs.Types.{Typing}
use Rattle.tree_constraints.specs.Laws.{IsAnalysed}
use Rattle.flow_cert.specs.declared.solution.Solution.{Solution}
use Rattle.flow_cert.specs.Solved.{IsSolutionOf}
use Rattle.flow_report.specs.SolutionText.{solution_text}

-- The bytes are the print of the tree by the specification, which is accepted: the text of its solution.
pub record IsPrint (spec : Spec) (tree : Term) (out : List ℕ) : Type 0 where
  pub types : List Typing
  pub accepted : IsAnalysed spec types
  pub solution : Solution
  pub solves : IsSolutionOf spec types tree solution
  pub text : out ≡ solution_text solution
