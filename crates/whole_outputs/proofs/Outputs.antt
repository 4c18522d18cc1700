-- A request has one whole output, and a file one answer.
use Rattle.std.proofs.Common.{◌≡◌, ℕ, List}
use Rattle.flow_cli.specs.declared.output.End.{End}
use Rattle.flow_cli.proofs.AcceptLemmas.{same_specification, same_tree}
use Rattle.flow_cli.proofs.WholeLemmas.{Alike, refused_specifications, refused_trees, graphs, alike_end, wholes_alike, refused_or_specification, refused_or_tree}
use Rattle.whole_outputs.specs.Laws.{RequestsHaveOneOutput, SpecificationsHaveOneAnswer, TreesHaveOneAnswer}
use Rattle.whole_outputs.proofs.GraphTexts.{one_text}
use Rattle.whole_outputs.proofs.Lines.{specification_line, tree_line}

alike_bytes : (out other : List ℕ) (how way : End) → Alike out other how way → out ≡ other
alike_bytes out other how way (refused_specifications content l l' e f) = specification_line content out other l l'
alike_bytes out other how way (refused_trees signature content l l' e f) = tree_line signature content out other l l'
alike_bytes out other how way (graphs spec tree g g' e f) = one_text spec tree out other g g'

pub one_output : RequestsHaveOneOutput
one_output words files out other how way one two =
    let alike = wholes_alike words files out other how way one two in (alike_bytes out other how way alike, alike_end out other how way alike)

pub specification_answers : SpecificationsHaveOneAnswer
specification_answers content = record {
  one = same_specification content;
  one_line = specification_line content;
  not_both = λ spec line accepted refused. refused_or_specification content line spec refused accepted;
}

pub tree_answers : TreesHaveOneAnswer
tree_answers signature content = record {
  one = same_tree signature content;
  one_line = tree_line signature content;
  not_both = λ tree line accepted refused. refused_or_tree signature content line tree refused accepted;
}
