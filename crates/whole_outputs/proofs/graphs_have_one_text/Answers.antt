use Rattle.whole_outputs.proofs.GraphTexts.{one_text}
use Rattle.whole_outputs.proofs.graphs_have_one_text.Goals as goal

pub returns : goal.returns
returns c = one_text
