use Rattle.std.proofs.Common.{◌-◌, get_or, arith}
use Rattle.std.proofs.lemmas.Option.{slice_get-get_or}
use Rattle.flow_links.proofs.SetLemmas.{Gains-then, Gains-same}
use Rattle.graph_shape.proofs.Planned.{pairs_next, pairs_all}
use Rattle.graph_shape.proofs.planning.add_chain.Goals as goal

pub loop-k-preserved : goal.loop-k-preserved
loop-k-preserved c = Gains-same (Gains-then c.loop-k.invariant c.in_ok-add_pair.ensures)
    (λ x. pairs_next c.args.rule.now c.args.items.now c.loop-k.k (c.loop-k.k - 1)
    (get_or c.args.items.now (c.loop-k.k - 1) c.index-items-k.result) (get_or c.args.items.now c.loop-k.k c.index-items-k-in-loop-k.result) (omega arith)
    (slice_get-get_or c.args.items.now (c.loop-k.k - 1) c.index-items-k.result (omega arith))
    (slice_get-get_or c.args.items.now c.loop-k.k c.index-items-k-in-loop-k.result (omega arith)) x)

pub returns : goal.returns
returns c = Gains-same c.loop-k.invariant (pairs_all c.args.rule.now c.args.items.now c.loop-k.k (omega arith))
