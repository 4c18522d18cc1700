use Rattle.value_heights.proofs.Fitting.{are_lattices}
use Rattle.value_heights.proofs.domains_are_lattices.Goals as goal

-- the law
pub returns : goal.returns
returns c = are_lattices
