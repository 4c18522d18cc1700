use Rattle.std.proofs.Common.{rules}
use Rattle.table_laws.specs.JoinTables.{HasNoFault, table_by}
use Rattle.lattice_tables.proofs.Made.{complete_at, declared_is, lawful_at}
use Rattle.lattice_tables.proofs.declared.build_declared.Goals as goal

pub invariant_of-result : goal.invariant_of-result
invariant_of-result c =
    let same = declared_is c.args.decl.now _ _ _ _ c.as_slice-elements.ensures c.as_slice.ensures c.number_of-bottom.ensures c.in_ok-join.ensures in
    let whole = complete_at _ _ same c.requires.complete in
    let none : HasNoFault (table_by _ c.number_of-bottom.result c.in_ok-join.join) = search rules in
    record { few = search rules; complete = whole; lawful = lawful_at _ whole none }
