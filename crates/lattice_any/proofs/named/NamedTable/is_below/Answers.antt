use Rattle.std.proofs.Common.{rules}
use borrow.Author.Tests.{tests}
use Rattle.lattice_any.proofs.NamedTables.{below_answer, number_within}
use Rattle.lattice_any.proofs.named.NamedTable.is_below.Goals as goal

pub join_of-requires-clause-left : goal.join_of-requires-clause-left
join_of-requires-clause-left c = number_within c.args.self.now c.args.x.now c.number.result c.requires.left c.number.ensures

pub join_of-requires-clause-right : goal.join_of-requires-clause-right
join_of-requires-clause-right c = number_within c.args.self.now c.args.y.now c.number-above.result c.requires.right c.number-above.ensures

pub returns : goal.returns
returns c =
    below_answer c.args.self.now c.args.x.now c.args.y.now c.number.result c.number-above.result c.join_of.result _ c.requires.left c.requires.right c.number.ensures c.number-above.ensures c.join_of.ensures.value (search (rules, tests))
