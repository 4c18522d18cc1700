use Rattle.std.proofs.Common.{rules}
use Rattle.table_laws.specs.JoinTables.{HasNoFault, table_by}
use Rattle.lattice_tables.proofs.Made.{complete_copy, lawful_copy}
use Rattle.lattice_tables.proofs.building.build.Goals as goal

pub invariant_of-result : goal.invariant_of-result
invariant_of-result c =
    let none : HasNoFault (table_by c.args.count c.args.bottom c.args.join.now) = search rules in
    record {
      few = search rules;
      complete = complete_copy _ _ _ _ c.in_ok-join.ensures c.requires;
      lawful = lawful_copy _ _ _ _ c.in_ok-join.ensures c.requires none;
    }
