use Rattle.solver_examples.specs.MoveLaws.{moving_lawful, turn_edit, turn_taints}
use Rattle.solver_examples.proofs.moved.turning_is_an_edit.Goals as goal

pub returns : goal.returns
returns c = record { lawful = moving_lawful; edit = turn_edit; taints = turn_taints }
