use Rattle.lattice_any.proofs.Elems.{derived_rising}
use Rattle.eval_values.proofs.ElemSets.{has_is}
use Rattle.eval_values.proofs.sets.has.Goals as goal

pub contains-requires : goal.contains-requires
contains-requires c = derived_rising c.args.elems.now c.requires

pub returns : goal.returns
returns c = has_is c.args.elems.now c.args.elem.now c.contains.result c.contains.ensures
