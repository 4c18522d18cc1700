use Rattle.index_lists.specs.Records.{first}
use Rattle.index_lists.proofs.GroupLemmas.{absent_grouped}
use Rattle.index_lists.proofs.trace.push_step.Goals as goal

pub push-requires-clause-absent : goal.push-requires-clause-absent
push-requires-clause-absent c = λ k. absent_grouped first c.make_room.new.steps.entries c.make_room.new.by_target _ k c.make_room.ensures.trace.grouped c.add-number.ensures.fresh
