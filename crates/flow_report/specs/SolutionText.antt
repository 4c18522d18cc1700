-- The text of a solution.
use Rattle.std.specs.Prelude.{ℕ, List, ◌++◌, All, length, codes}
use Rattle.std.specs.List.{flat_map}
use Rattle.flow_term.specs.declared.value.Valued.{Valued}
use Rattle.value_text.specs.Texts.{HasText}
use Rattle.flow_lines.specs.Lines.{count_line, value_line}
use Rattle.flow_cert.specs.declared.solution.Solution.{Solution}
use Rattle.flow_report.specs.GraphText.{graph_text}

-- the number of values, and a line for each
abbrev pub values_text : List Valued → List ℕ
values_text values = count_line (codes "values ") (length values) ++ flat_map value_line values

-- the graph, and then the values
abbrev pub solution_text : Solution → List ℕ
solution_text s = graph_text s.nodes s.edges ++ values_text s.values

-- each value has a text
abbrev pub HaveTexts : List Valued → Type 0
HaveTexts = All (λ v. HasText v.value)
