use Rattle.flow_match.proofs.Names.{indexed}
use Rattle.flow_match.proofs.index.PatternIndex.new.Goals as goal

pub returns : goal.returns
returns g c =
    indexed g.R.Patterned.pattern_in c.args.rules.now (record { by_name = c.in_ok-by_name.by_name; others = c.in_ok-others.others }) c.in_ok-others.ensures c.in_ok-by_name.ensures
