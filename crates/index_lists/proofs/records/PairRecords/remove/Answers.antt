use Rattle.index_lists.proofs.RecordLemmas.{once_is}
use Rattle.index_lists.proofs.records.PairRecords.remove.Goals as goal

pub returns-clause-once : goal.returns-clause-once
returns-clause-once c = once_is c.remove_pair.new.slab c.remove_pair.new.order c.remove_pair.ensures.ordered
