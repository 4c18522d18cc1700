use Rattle.std.proofs.Common.{◌∙◌}
use Rattle.lattice_any.proofs.NamedTables.{declared_is, numbers_kept}
use Rattle.lattice_any.proofs.tables.declared_table.Goals as goal

pub invariant_of-result : goal.invariant_of-result
invariant_of-result c = record { numbers = numbers_kept c.args.decl.now c.args.table c.in_ok-elements.elements c.requires (c.in_ok-elements.ensures ∙ c.as_slice.ensures) }

pub returns : goal.returns
returns c = declared_is c.args.decl.now c.args.table c.in_ok-elements.elements c.in_ok-name.name c.requires (c.in_ok-elements.ensures ∙ c.as_slice.ensures) c.in_ok-name.ensures
