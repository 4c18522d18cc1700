use Rattle.std.proofs.Common.{arith}
use Rattle.flow_links.proofs.BelowLemmas.{Adds-same, Adds-then}
use Rattle.flow_term.proofs.Outcomes.{on_ok}
use Rattle.flow_links.proofs.HereLemmas.{empty_list, filled_list}
use Rattle.flow_links.proofs.here.add_list.Goals as goal

pub returns-then-n-eq0 : goal.returns-then-n-eq0
returns-then-n-eq0 c = on_ok c.add_through.result c.add_through.ensures (λ h. Adds-same h (empty_list c.args.path.now c.args.n c.if-n-eq0.true))

pub returns : goal.returns
returns c = on_ok c.add_last.result c.add_last.ensures (λ h.
    Adds-same (Adds-then (Adds-then c.in_ok-add_first.ensures c.in_ok-add_nexts.ensures) h) (filled_list c.args.path.now c.args.n (omega arith)))
