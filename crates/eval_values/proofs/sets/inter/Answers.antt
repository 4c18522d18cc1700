use Rattle.lattice_any.proofs.Elems.{derived_rising, ok_weaker, intersection_is}
use Rattle.eval_values.proofs.sets.inter.Goals as goal

pub inter-requires-clause-left : goal.inter-requires-clause-left
inter-requires-clause-left c = derived_rising c.args.a.now c.requires.left

pub inter-requires-clause-right : goal.inter-requires-clause-right
inter-requires-clause-right c = derived_rising c.args.b.now c.requires.right

pub returns : goal.returns
returns c = ok_weaker _ _ c.inter.result (λ zs h. intersection_is c.args.a.now c.args.b.now zs c.requires.left h) c.inter.ensures
