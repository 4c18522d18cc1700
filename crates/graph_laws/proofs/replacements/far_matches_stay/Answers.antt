use Rattle.graph_laws.proofs.AlikeBindings.{far_matches}
use Rattle.graph_laws.proofs.replacements.far_matches_stay.Goals as goal

pub returns : goal.returns
returns c = far_matches
