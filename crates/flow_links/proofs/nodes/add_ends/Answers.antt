use Rattle.flow_term.proofs.Outcomes.{on_ok}
use Rattle.flow_links.proofs.SetLemmas.{Gains-then}
use Rattle.flow_links.proofs.nodes.add_ends.Goals as goal

pub returns : goal.returns
returns c = on_ok c.add_node-2.result c.add_node-2.ensures (λ h. Gains-then c.in_ok-add_node.ensures h)
