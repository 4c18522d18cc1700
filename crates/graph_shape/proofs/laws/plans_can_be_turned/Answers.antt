use Rattle.graph_shape.proofs.MirroredPlans.{leads_mirrored}
use Rattle.graph_shape.proofs.laws.plans_can_be_turned.Goals as goal

pub returns : goal.returns
returns c = leads_mirrored
