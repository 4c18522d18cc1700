use Rattle.std.proofs.Common.{rules, sym, ◌∙◌}
use borrow.Author.Tests.{tests}
use Rattle.lattice_any.proofs.NamedTables.{has_answer}
use Rattle.lattice_any.proofs.named.NamedTable.has.Goals as goal

pub returns : goal.returns
returns c = has_answer c.args.self.now c.args.name.now c.from.result c.len.result _ (c.from.ensures ∙ c.number.ensures) c.len.ensures (search (rules, tests))
