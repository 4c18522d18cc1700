use Rattle.whole_outputs.proofs.Outputs.{one_output}
use Rattle.whole_outputs.proofs.requests_have_one_output.Goals as goal

pub returns : goal.returns
returns c = one_output
