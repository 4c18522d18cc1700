use Rattle.flow_match.proofs.Sorts.{binds_its_variables}
use Rattle.flow_match.proofs.laws.patterns_bind_their_variables.Goals as goal

pub returns : goal.returns
returns c = binds_its_variables c.args._pattern.now
