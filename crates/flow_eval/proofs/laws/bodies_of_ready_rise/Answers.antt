use Rattle.flow_eval.proofs.Bodies.{bodies_rise}
use Rattle.flow_eval.proofs.laws.bodies_of_ready_rise.Goals as goal

pub returns : goal.returns
returns c = bodies_rise
