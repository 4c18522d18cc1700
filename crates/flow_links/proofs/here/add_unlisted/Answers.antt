use Rattle.std.specs.Option.{option_copied}
use Rattle.flow_links.proofs.BelowLemmas.{Adds-same}
use Rattle.flow_term.proofs.Outcomes.{on_ok}
use Rattle.flow_links.proofs.HereLemmas.{Adds-none, entered_through, entered_plain}
use Rattle.flow_links.proofs.here.add_unlisted.Goals as goal

pub returns-then-is_passed_through : goal.returns-then-is_passed_through
returns-then-is_passed_through c = on_ok c.add_through.result c.add_through.ensures (λ h.
    Adds-same h (entered_through (option_copied c.args.matching) c.args.term.now c.args.path.now c.requires (c.is_passed_through.ensures.passed c.if-is_passed_through.true)))

pub returns : goal.returns
returns c = Adds-none c.args.out.now
    (entered_plain (option_copied c.args.matching) c.args.term.now c.args.path.now c.requires (c.is_passed_through.ensures.plain c.if-is_passed_through.false))
