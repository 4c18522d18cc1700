use Rattle.graph_laws.proofs.AlikeBindings.{bind_alike}
use Rattle.graph_laws.proofs.replacements.alike_terms_bind_alike.Goals as goal

pub returns : goal.returns
returns c = bind_alike
