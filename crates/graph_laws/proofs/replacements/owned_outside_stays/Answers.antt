use Rattle.graph_laws.proofs.Outside.{owned_outside}
use Rattle.graph_laws.proofs.replacements.owned_outside_stays.Goals as goal

pub returns : goal.returns
returns c = owned_outside
