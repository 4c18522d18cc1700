use Rattle.std.proofs.Common.{◌≡◌, rules}
use Rattle.flow_solver.proofs.LoopLemmas.{set_none}
use Rattle.flow_solver.proofs.numbers.take_all.Goals as goal

pub returns-clause-set : goal.returns-clause-set
returns-clause-set c =
    let same : c.deref.result.now ≡ c.args.items.now.items = search rules in
    rw c.clear.ensures.items (set_none c.args.items.now.items c.args.marks.now.items c.unmark_each.new.marks.items c.requires (rw same at c.unmark_each.ensures.marks))
