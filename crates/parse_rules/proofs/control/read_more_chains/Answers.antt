use Rattle.std.proofs.Common.{arith, refl, sym, ◌∙◌}
use Rattle.spec_grammar.proofs.Turns.{after_take, after_turn}
use Rattle.spec_grammar.specs.Symbols.{AChain}
use Rattle.spec_grammar.specs.declared.kind.Kind.TheVariants as kinds
use Rattle.parse_rules.proofs.control.read_more_chains.Goals as goal

pub loop-alloc-smaller : goal.loop-alloc-smaller
loop-alloc-smaller c = after_take c.args.nesting kinds.Comma AChain c.loop-alloc.rest.tokens.now c.in_ok-after.field-0-0.now c.in_ok-after.after.tokens.now c.in_ok-next.next c.in_ok-next.after.tokens.now c.in_ok-after.ensures.reads c.in_ok-next.ensures

pub loop-alloc-preserved : goal.loop-alloc-preserved
loop-alloc-preserved c =
    rw c.in_ok-push.ensures.ok (sym (after_turn c.args.nesting kinds.Comma AChain c.loop-alloc.chains c.loop-alloc.rest.tokens.now (omega arith) (sym c.loop-alloc-test.ensures) ∙ rw (c.in_ok-after.ensures.reads, c.in_ok-next.ensures) refl) ∙ c.loop-alloc.invariant)
