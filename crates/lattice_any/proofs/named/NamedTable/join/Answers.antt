use Rattle.lattice_any.proofs.NamedTables.{joined_name, number_within}
use Rattle.lattice_any.proofs.named.NamedTable.join.Goals as goal

pub join_of-requires-clause-left : goal.join_of-requires-clause-left
join_of-requires-clause-left c = number_within c.args.self.now c.args.x.now c.number.result c.requires.left c.number.ensures

pub join_of-requires-clause-right : goal.join_of-requires-clause-right
join_of-requires-clause-right c = number_within c.args.self.now c.args.y.now c.number-2.result c.requires.right c.number-2.ensures

pub returns : goal.returns
returns c =
    joined_name c.args.self.now c.args.x.now c.args.y.now _ _ _ _ c.requires.left c.requires.right c.number.ensures c.number-2.ensures c.join_of.ensures.value c.name.ensures
