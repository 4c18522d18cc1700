use Rattle.check_base.proofs.GathersLaws.{Gathers-then}
use Rattle.check_rules.proofs.patterns.check_pattern.Goals as goal

pub returns : goal.returns
returns c = Gathers-then c.check_applications.ensures c.check_depth.ensures
