use Rattle.table_laws.proofs.Declared.{well_declared}
use Rattle.table_laws.proofs.laws.accepted_tables_are_complete.Goals as goal

pub returns : goal.returns
returns c = well_declared
