use Rattle.flow_script.proofs.Single.{has_one_answer}
use Rattle.flow_script.proofs.laws.scripts_have_one_answer.Goals as goal

pub returns : goal.returns
returns c = has_one_answer
