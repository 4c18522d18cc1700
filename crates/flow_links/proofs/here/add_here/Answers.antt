use Rattle.std.specs.Option.{option_copied}
use Rattle.flow_links.proofs.BelowLemmas.{Adds-same, Adds-then}
use Rattle.flow_links.proofs.HereLemmas.{here_entered, here_unentered}
use Rattle.flow_links.proofs.here.add_here.Goals as goal

pub returns-in_ok-add_entered : goal.returns-in_ok-add_entered
returns-in_ok-add_entered c = Adds-same (Adds-then c.in_ok-add_rule.ensures c.in_ok-add_entered.ensures)
    (here_entered (option_copied c.args.matching) c.args.entered c.args.term.now c.args.path.now c.if-entered.true)

pub returns-else-entered : goal.returns-else-entered
returns-else-entered c = Adds-same c.in_ok-add_rule.ensures
    (here_unentered (option_copied c.args.matching) c.args.entered c.args.term.now c.args.path.now c.if-entered.false)
