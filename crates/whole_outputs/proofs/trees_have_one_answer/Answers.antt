use Rattle.whole_outputs.proofs.Outputs.{tree_answers}
use Rattle.whole_outputs.proofs.trees_have_one_answer.Goals as goal

pub returns : goal.returns
returns c = tree_answers
