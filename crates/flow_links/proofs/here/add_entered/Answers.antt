use Rattle.std.proofs.Common.{arith}
use Rattle.std.specs.Option.{option_copied}
use Rattle.flow_links.proofs.BelowLemmas.{Adds-same}
use Rattle.flow_links.proofs.HereLemmas.{entered_list}
use Rattle.flow_term.proofs.Outcomes.{on_ok}
use Rattle.flow_links.proofs.SizeLemmas.{few_children}
use Rattle.flow_links.proofs.here.add_entered.Goals as goal

pub overflow_cast-n : goal.overflow_cast-n
overflow_cast-n c = omega (arith, few_children c.args.term.now, c.in-Some.ensures.some.1)

pub returns-in-Some : goal.returns-in-Some
returns-in-Some c = on_ok c.add_list.result c.add_list.ensures (λ h. Adds-same h
    (entered_list (option_copied c.args.matching) c.args.term.now c.args.path.now c.in-Some.n c.in-Some.ensures.some.0 c.in-Some.ensures.some.1))
