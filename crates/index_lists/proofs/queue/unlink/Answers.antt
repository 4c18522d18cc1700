use Rattle.index_lists.proofs.QueueLemmas.{IsQueue-without}
use Rattle.index_lists.proofs.queue.unlink.Goals as goal

pub returns-clause-queue : goal.returns-clause-queue
returns-clause-queue c = IsQueue-without c.args.chain.now _ _ _ c.args.item c.requires.queue c.requires.there c.remove.ensures
