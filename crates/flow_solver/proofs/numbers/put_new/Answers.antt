use Rattle.std.proofs.Common.{◌≡◌, ◌++◌, ◌∷◌, [], false, rules}
use Rattle.std.specs.Prelude.{slice_index_or}
use Rattle.flow_solver.proofs.LoopLemmas.{set_push}
use Rattle.flow_solver.proofs.numbers.put_new.Goals as goal

pub returns-clause-set : goal.returns-clause-set
returns-clause-set c =
    let unmarked : slice_index_or c.args.marks.now.items c.args.item false ≡ false = search rules in
    let pushed : c.push.new.self.items ≡ c.args.items.now.items ++ c.args.item ∷ [] = search rules in
    rw pushed (set_push c.args.items.now.items c.args.marks.now.items c.reach_mark.new.marks.items c.args.item c.requires unmarked c.reach_mark.ensures.kept c.in_ok-reach_mark.ensures.long)
