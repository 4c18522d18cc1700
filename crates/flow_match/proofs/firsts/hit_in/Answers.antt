use Rattle.std.proofs.Common.{sym, ◌∙◌}
use Rattle.flow_term.proofs.Outcomes.{if_ok}
use Rattle.flow_match.specs.Matched.{hit_by}
use Rattle.flow_match.proofs.FirstHits.{no_hit, one_hit, some_hit, some_later, some_now}
use Rattle.flow_match.proofs.firsts.hit_in.Goals as goal

pub returns-then-is_hit : goal.returns-then-is_hit
returns-then-is_hit c = if_ok c.hit_of.result c.hit_of.ensures (λ hit same.
    let found = sym c.is_hit.ensures ∙ c.if-is_hit.true in
    same
    ∙ sym (some_now (hit_by c.args.property c.args.name.now c.args.boundary c.args.term.now c.args.path.now) c.args.rules.now c.loop-n.n c.index-rules-n.result c.loop-n-test.true c.index-rules-n.is
    (some_hit c.args.property c.args.name.now c.args.boundary c.args.term.now c.args.path.now c.loop-n.n c.index-rules-n.result found)
    ∙ one_hit c.args.property c.args.name.now c.args.boundary c.args.term.now c.args.path.now c.loop-n.n c.index-rules-n.result found)
    ∙ c.loop-n.invariant)

pub loop-n-preserved : goal.loop-n-preserved
loop-n-preserved c =
    some_later (hit_by c.args.property c.args.name.now c.args.boundary c.args.term.now c.args.path.now) c.args.rules.now c.loop-n.n c.index-rules-n.result c.loop-n-test.true c.index-rules-n.is
    (no_hit c.args.property c.args.name.now c.args.boundary c.args.term.now c.args.path.now c.loop-n.n c.index-rules-n.result (sym c.is_hit.ensures ∙ c.if-is_hit.false))
    ∙ c.loop-n.invariant
