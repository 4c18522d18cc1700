use Rattle.graph_laws.proofs.AlikeTerms.{match_alike}
use Rattle.graph_laws.proofs.replacements.alike_terms_match_alike.Goals as goal

pub returns : goal.returns
returns c = match_alike
