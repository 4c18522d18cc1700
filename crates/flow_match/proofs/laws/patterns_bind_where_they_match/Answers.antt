use Rattle.flow_match.proofs.Bindings.{binds_where_it_matches}
use Rattle.flow_match.proofs.laws.patterns_bind_where_they_match.Goals as goal

pub returns : goal.returns
returns c = binds_where_it_matches c.args._pattern.now
