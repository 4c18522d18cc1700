use Rattle.std.proofs.Common.{subst, sym}
use Rattle.lattice_tables.specs.Tables.{IsBuiltFrom}
use Rattle.flow_eval.proofs.Zips.{zip_get}
use Rattle.flow_eval.proofs.lattices.tables_of.Goals as goal

pub bounds-lattices-number : goal.bounds-lattices-number
bounds-lattices-number c = (zip_get IsBuiltFrom c.args.declared.now c.args.lattices.now c.loop-number.number c.index-declared-number.result c.requires c.loop-number-test.true c.index-declared-number.is).0

pub add-requires : goal.add-requires
add-requires c =
    let beside = zip_get IsBuiltFrom c.args.declared.now c.args.lattices.now c.loop-number.number c.index-declared-number.result c.requires c.loop-number-test.true c.index-declared-number.is in
    subst (IsBuiltFrom c.index-declared-number.result) (sym c.in_ok-table.ensures) (beside.1 c.index-lattices-number.result c.index-lattices-number.is)
