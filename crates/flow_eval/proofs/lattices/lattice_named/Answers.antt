use Rattle.std.proofs.Common.{ap, ◌∙◌}
use Rattle.std.proofs.lemmas.Option.{get_or_from_slice_get, slice_get_within}
use Rattle.lattice_tables.specs.Tables.{join_table}
use Rattle.flow_eval.proofs.Found.{lattice_found}
use Rattle.flow_eval.proofs.lattices.lattice_named.Goals as goal

pub bounds-lattices-lattice_number : goal.bounds-lattices-lattice_number
bounds-lattices-lattice_number c =
    let found = lattice_found c.args.declared.now c.args.lattices.now c.args.name.now.text c.lattice_number.result c.requires.are c.requires.known c.lattice_number.ensures in
    slice_get_within c.args.lattices.now c.lattice_number.result found.0 found.1

pub returns : goal.returns
returns c =
    let found = lattice_found c.args.declared.now c.args.lattices.now c.args.name.now.text c.lattice_number.result c.requires.are c.requires.known c.lattice_number.ensures in
    ap join_table (c.index-lattices-lattice_number.is ∙ get_or_from_slice_get c.args.lattices.now c.lattice_number.result found.0 _ found.1) ∙ found.2
