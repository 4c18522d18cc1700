use Rattle.value_heights.proofs.Fitting.{are_ranked}
use Rattle.value_heights.proofs.domains_are_ranked.Goals as goal

-- the law
pub returns : goal.returns
returns c = are_ranked
