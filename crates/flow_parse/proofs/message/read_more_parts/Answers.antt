use Rattle.std.proofs.Common.{refl, sym, ◌∙◌}
use Rattle.flow_parse.proofs.RuleLaws.{parts_turn}
use Rattle.flow_parse.proofs.message.read_more_parts.Goals as goal

pub loop-alloc-preserved : goal.loop-alloc-preserved
loop-alloc-preserved c =
    rw (c.in_ok-push.ensures.ok, c.in_ok-part.ensures) (sym (parts_turn c.loop-alloc.parts c.loop-alloc.rest.tokens.now (sym c.loop-alloc-test.ensures) ∙ rw (c.in_ok-after.ensures.reads, c.in_ok-token.ensures.reads) refl) ∙ c.loop-alloc.invariant)
