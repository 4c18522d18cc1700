use Rattle.graph_laws.proofs.AlikeTerms.{far_rules}
use Rattle.graph_laws.proofs.replacements.far_rules_stay.Goals as goal

pub returns : goal.returns
returns c = far_rules
