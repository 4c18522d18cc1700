use Rattle.lattice_any.proofs.Elems.{derived_rising, ok_weaker, union_is}
use Rattle.eval_values.proofs.sets.union.Goals as goal

pub union-requires-clause-left : goal.union-requires-clause-left
union-requires-clause-left c = derived_rising c.args.a.now c.requires.left

pub union-requires-clause-right : goal.union-requires-clause-right
union-requires-clause-right c = derived_rising c.args.b.now c.requires.right

pub returns : goal.returns
returns c = ok_weaker _ _ c.union.result (λ zs h. union_is c.args.a.now c.args.b.now zs c.requires.left h) c.union.ensures
