use Rattle.std.proofs.Common.{sym, ◌∙◌}
use Rattle.flow_term.specs.declared.graph.NodeKind.TheVariants.{Start, Node as Single, End}
use Rattle.flow_term.proofs.NodeTexts.{split_once}
use Rattle.flow_term.proofs.node_text.split_kind.Goals as goal

pub returns-in-Some-clause-only : goal.returns-in-Some-clause-only
returns-in-Some-clause-only c = λ front kind e. split_once _ front Start kind (sym c.in-Some.ensures.found ∙ e)

pub returns-in-Some-front_of-clause-only : goal.returns-in-Some-front_of-clause-only
returns-in-Some-front_of-clause-only c = λ front kind e. split_once _ front Single kind (sym c.in-Some-front_of.ensures.found ∙ e)

pub returns-clause-only : goal.returns-clause-only
returns-clause-only c = λ front kind e. split_once _ front End kind (sym c.in_ok-front.ensures.found ∙ e)
