use Rattle.index_lists.proofs.RecordLemmas.{once_is}
use Rattle.index_lists.proofs.records.PairRecords.add.Goals as goal

pub returns-clause-once : goal.returns-clause-once
returns-clause-once c = once_is c.add_pair.new.slab c.add_pair.new.order c.add_pair.ensures.ordered
