use Rattle.lattice_any.proofs.NamedTables.{have_domains}
use Rattle.lattice_any.proofs.laws.declared_types_have_their_domains.Goals as goal

pub returns : goal.returns
returns c = have_domains
