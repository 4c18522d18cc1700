use Rattle.std.proofs.Common.{ap, sym, ◌∙◌, Some}
use Rattle.std.proofs.lemmas.Option.{get_or_from_slice_get, slice_get_within}
use Rattle.flow_eval.proofs.Found.{declaration_found}
use Rattle.flow_eval.proofs.lattices.declaration_named.Goals as goal

pub bounds-declared-lattice_number : goal.bounds-declared-lattice_number
bounds-declared-lattice_number c =
    let found = declaration_found c.args.declared.now c.args.name.now c.lattice_number.result c.requires c.lattice_number.ensures in
    slice_get_within c.args.declared.now c.lattice_number.result found.0 found.1

pub returns : goal.returns
returns c =
    let found = declaration_found c.args.declared.now c.args.name.now c.lattice_number.result c.requires c.lattice_number.ensures in
    found.2 ∙ ap Some (sym (c.index-declared-lattice_number.is ∙ get_or_from_slice_get c.args.declared.now c.lattice_number.result found.0 _ found.1))
