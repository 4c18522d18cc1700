use Rattle.eval_values.proofs.ElemSets.{inserted_is}
use Rattle.eval_values.proofs.sets.insert_elem.Goals as goal

pub returns-clause-ok : goal.returns-clause-ok
returns-clause-ok c = inserted_is _ _ _ c.items-rises.ensures.rising c.in_ok-insert.ensures.inserted
