use Rattle.graph_laws.proofs.Accepted.{lists_no_rule}
use Rattle.graph_laws.proofs.specifications.lists_have_no_rule.Goals as goal

pub returns : goal.returns
returns c = lists_no_rule
