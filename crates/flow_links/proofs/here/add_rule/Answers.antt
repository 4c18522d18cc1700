use Rattle.std.proofs.Common.{ap, sym, ◌∙◌}
use Rattle.std.specs.Option.{option_copied}
use Rattle.flow_links.proofs.BelowLemmas.{Adds-same}
use Rattle.flow_term.proofs.Outcomes.{on_ok}
use Rattle.flow_links.proofs.HereLemmas.{rule_here}
use Rattle.flow_links.proofs.here.add_rule.Goals as goal

pub returns-then-is_counting : goal.returns-then-is_counting
returns-then-is_counting c = on_ok c.add_chains.result c.add_chains.ensures (λ h.
    Adds-same h (rule_here (option_copied c.args.matching) c.args.entered c.args.path.now c.in-Some.rule.now c.as_slice.result.now
    (ap option_copied c.in-Some.is) (sym c.is_counting.ensures ∙ c.if-is_counting.true) c.as_slice.ensures))
