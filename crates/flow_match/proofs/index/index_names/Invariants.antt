use Rattle.std.proofs.Common.{take}
use Rattle.flow_match.specs.inner.Named.{HasNames}
use Rattle.flow_match.proofs.index.index_names.Given as goal

abbrev pub invariant-loop-rule : goal.invariant-loop-rule
invariant-loop-rule g l = HasNames g.R.Patterned.pattern_in l.rules (take l.rule-index l.rules) l.by_name
