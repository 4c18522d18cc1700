use Rattle.graph_laws.proofs.Elsewhere.{put_parts}
use Rattle.graph_laws.proofs.replacements.replacements_in_parts.Goals as goal

pub returns : goal.returns
returns c = put_parts
