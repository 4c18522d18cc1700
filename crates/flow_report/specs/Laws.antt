-- What there is at most one of.
use Rattle.std.specs.Prelude.{◌≡◌, ℕ, List, ◌++◌}
use Rattle.flow_term.specs.declared.term.Term.{Term}
use Rattle.flow_term.specs.declared.value.Valued.{Valued}
use Rattle.flow_syntax.specs.declared.spec.Spec.{Spec}
use Rattle.flow_report.specs.GraphText.{GraphText}
use Rattle.flow_report.specs.Prints.{IsPrint}
use Rattle.flow_report.specs.SolutionText.{values_text}

-- Two texts of the graph of the same tree by the same specification are the same.
abbrev pub GraphsHaveOneText : Type 0
GraphsHaveOneText = (spec : Spec) (tree : Term) (text other : List ℕ) → GraphText spec tree text → GraphText spec tree other → text ≡ other

-- Two prints of the same tree by the same specification are the same.
abbrev pub PrintsAreOne : Type 0
PrintsAreOne = (spec : Spec) (tree : Term) (out other : List ℕ) → IsPrint spec tree out → IsPrint spec tree other → out ≡ other

-- A print is the text of the graph, and then that of values.
abbrev pub PrintsBeginWithGraphs : Type 0
PrintsBeginWithGraphs = (spec : Spec) (tree : Term) (out : List ℕ) → IsPrint spec tree out → (graph : List ℕ) × (values : List Valued) × GraphText spec tree graph × (out ≡ graph ++ values_text values)
