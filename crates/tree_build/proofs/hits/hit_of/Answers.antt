use Rattle.std.proofs.Common.{sym, ◌∙◌}
use Rattle.tree_build.specs.inner.Hits.{is_hit_of}
use Rattle.tree_build.proofs.HitFacts.{first_here, none_more}
use Rattle.tree_build.proofs.hits.hit_of.Goals as goal

pub returns-then-is_hit_of : goal.returns-then-is_hit_of
returns-then-is_hit_of c =
    first_here (is_hit_of c.args.property c.args.boundary) c.args.hits.now c.loop-hit.hit-index c.hit-item.result c.loop-hit-test.true c.hit-item.is c.loop-hit.invariant (sym c.is_hit_of.ensures ∙ c.if-is_hit_of.true)

pub loop-hit-preserved : goal.loop-hit-preserved
loop-hit-preserved c =
    none_more (is_hit_of c.args.property c.args.boundary) c.args.hits.now c.loop-hit.hit-index c.hit-item.result c.loop-hit-test.true c.hit-item.is c.loop-hit.invariant (sym c.is_hit_of.ensures ∙ c.if-is_hit_of.false)
