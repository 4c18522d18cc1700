use Rattle.std.proofs.Common.{ap, ◌∙◌, nat_eq}
use Rattle.list_theory.specs.Lists.{has}
use Rattle.list_theory.proofs.ListLemmas.{has-get_or}
use Rattle.list_theory.proofs.NumberLemmas.{numbers_exact}
use Rattle.index_lists.specs.Records.{all_in}
use Rattle.index_lists.proofs.queue.take_at.Goals as goal

pub unlink-requires-clause-there : goal.unlink-requires-clause-there
unlink-requires-clause-there c = ap (has nat_eq (all_in c.args.chain.now)) c.item_at-item.ensures ∙ has-get_or nat_eq numbers_exact (all_in c.args.chain.now) c.args.place 0 c.requires.place

pub returns-clause-was_there : goal.returns-clause-was_there
returns-clause-was_there c = ap (has nat_eq (all_in c.args.chain.now)) c.item_at-item.ensures ∙ has-get_or nat_eq numbers_exact (all_in c.args.chain.now) c.args.place 0 c.requires.place
