use Rattle.lattice_any.proofs.Elems.{derived_rising}
use Rattle.lattice_any.proofs.parts.includes.Goals as goal

pub includes-requires-clause-left : goal.includes-requires-clause-left
includes-requires-clause-left c = derived_rising c.args.a.now c.requires.left

pub includes-requires-clause-right : goal.includes-requires-clause-right
includes-requires-clause-right c = derived_rising c.args.b.now c.requires.right
