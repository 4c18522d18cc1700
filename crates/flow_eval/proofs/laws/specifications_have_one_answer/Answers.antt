use Rattle.flow_eval.proofs.Causes.{have_one_answer}
use Rattle.flow_eval.proofs.laws.specifications_have_one_answer.Goals as goal

pub returns : goal.returns
returns c = have_one_answer
