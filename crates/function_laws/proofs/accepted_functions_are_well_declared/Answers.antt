use Rattle.function_laws.proofs.Declared.{accepted}
use Rattle.function_laws.proofs.accepted_functions_are_well_declared.Goals as goal

pub returns : goal.returns
returns c = accepted
