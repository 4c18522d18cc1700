use Rattle.std.proofs.Common.{◌≡◌, ℕ, subst, arith}
use Rattle.flow_links.specs.Below.{Adds}
use Rattle.flow_links.specs.inner.Here.{NextBelow}
use Rattle.flow_links.proofs.BelowLemmas.{Adds-same, Adds-then}
use Rattle.flow_links.proofs.HereLemmas.{nexts_more}
use Rattle.flow_links.proofs.here.add_nexts.Goals as goal

pub loop-k-preserved : goal.loop-k-preserved
loop-k-preserved c = Adds-same (Adds-then c.loop-k.invariant c.in_ok-add_next.ensures) (nexts_more c.args.path.now c.loop-k.k (omega arith))

pub returns : goal.returns
returns c =
    let e : c.loop-k.k ≡ c.args.n = omega arith in
    subst (λ (k : ℕ). Adds c.args.out.now c.loop-k.out (NextBelow c.args.path.now k)) e c.loop-k.invariant
