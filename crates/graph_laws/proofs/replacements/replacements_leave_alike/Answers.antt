use Rattle.graph_laws.proofs.AlikeTerms.{replaced_alike}
use Rattle.graph_laws.proofs.replacements.replacements_leave_alike.Goals as goal

pub returns : goal.returns
returns c = replaced_alike
