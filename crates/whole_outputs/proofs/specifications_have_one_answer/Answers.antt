use Rattle.whole_outputs.proofs.Outputs.{specification_answers}
use Rattle.whole_outputs.proofs.specifications_have_one_answer.Goals as goal

pub returns : goal.returns
returns c = specification_answers
