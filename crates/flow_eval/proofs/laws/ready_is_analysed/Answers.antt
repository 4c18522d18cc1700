use Rattle.flow_eval.proofs.Bodies.{ready_analysed}
use Rattle.flow_eval.proofs.laws.ready_is_analysed.Goals as goal

pub returns : goal.returns
returns c = ready_analysed
