use Rattle.lattice_any.proofs.Elems.{derived_rising, ok_weaker}
use Rattle.eval_values.proofs.ElemSets.{difference_is}
use Rattle.eval_values.proofs.sets.minus.Goals as goal

pub minus-requires-clause-left : goal.minus-requires-clause-left
minus-requires-clause-left c = derived_rising c.args.a.now c.requires.left

pub minus-requires-clause-right : goal.minus-requires-clause-right
minus-requires-clause-right c = derived_rising c.args.b.now c.requires.right

pub returns : goal.returns
returns c = ok_weaker _ _ c.minus.result (λ zs h. difference_is c.args.a.now c.args.b.now zs c.requires.left h) c.minus.ensures
