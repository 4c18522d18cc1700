use Rattle.graph_laws.proofs.NearRules.{near_rules}
use Rattle.graph_laws.proofs.replacements.near_rules_suffice.Goals as goal

pub returns : goal.returns
returns c = near_rules
