use Rattle.graph_laws.proofs.Elsewhere.{stays_elsewhere}
use Rattle.graph_laws.proofs.replacements.positions_stay_elsewhere.Goals as goal

pub returns : goal.returns
returns c = stays_elsewhere
