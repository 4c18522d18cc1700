use Rattle.std.proofs.Common.{refl, sym, ◌∙◌}
use Rattle.spec_grammar.proofs.Unrolled.{reads_take}
use Rattle.spec_grammar.specs.Symbols.{AConstructor}
use Rattle.spec_grammar.proofs.Turns.{each_turn}
use Rattle.parse_decls.proofs.signatures.read_constructors.Goals as goal

pub loop-alloc-smaller : goal.loop-alloc-smaller
loop-alloc-smaller c = reads_take 0 AConstructor c.loop-alloc.rest.tokens.now c.in_ok-constructor.constructor c.in_ok-constructor.after.tokens.now c.in_ok-constructor.ensures

pub loop-alloc-preserved : goal.loop-alloc-preserved
loop-alloc-preserved c = rw c.in_ok-push.ensures.ok (sym (each_turn 0 AConstructor c.loop-alloc.constructors c.loop-alloc.rest.tokens.now (sym c.loop-alloc-test.ensures) ∙ rw c.in_ok-constructor.ensures refl) ∙ c.loop-alloc.invariant)
