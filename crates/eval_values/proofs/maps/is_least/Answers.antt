use Rattle.eval_values.proofs.LeastValues.{least_told}
use Rattle.eval_values.proofs.maps.is_least.Goals as goal

pub returns : goal.returns
returns c = least_told _ c.args.value.now c.is_least.result c.requires c.is_least.ensures
