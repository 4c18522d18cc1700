use Rattle.flow_cert.proofs.SolutionLemmas.{solutions_one}
use Rattle.flow_cert.proofs.laws.solutions_are_one.Goals as goal

-- the law
pub returns : goal.returns
returns c = solutions_one
