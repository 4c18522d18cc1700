use Rattle.std.proofs.Common.{◌-◌, get_or, arith}
use Rattle.std.proofs.lemmas.Option.{slice_get-get_or}
use Rattle.flow_links.proofs.BelowLemmas.{Adds-then, Adds-same}
use Rattle.flow_links.proofs.HereLemmas.{pairs_next, pairs_all}
use Rattle.flow_links.proofs.chain.add_chain.Goals as goal

pub loop-k-preserved : goal.loop-k-preserved
loop-k-preserved c = Adds-same (Adds-then c.loop-k.invariant c.in_ok-add_pair.ensures)
    (pairs_next c.args.rule.now c.args.items.now c.args.path.now c.loop-k.k (c.loop-k.k - 1)
    (get_or c.args.items.now (c.loop-k.k - 1) c.index-items-k.result) (get_or c.args.items.now c.loop-k.k c.index-items-k-in-loop-k.result) (omega arith)
    (slice_get-get_or c.args.items.now (c.loop-k.k - 1) c.index-items-k.result (omega arith))
    (slice_get-get_or c.args.items.now c.loop-k.k c.index-items-k-in-loop-k.result (omega arith)))

pub returns : goal.returns
returns c = Adds-same c.loop-k.invariant (pairs_all c.args.rule.now c.args.items.now c.args.path.now c.loop-k.k (omega arith))
