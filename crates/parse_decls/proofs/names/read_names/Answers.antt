use Rattle.std.proofs.Common.{refl, sym, ◌∙◌}
use Rattle.parse_decls.proofs.ListLaws.{names_turn}
use Rattle.parse_decls.proofs.names.read_names.Goals as goal

pub loop-alloc-preserved : goal.loop-alloc-preserved
loop-alloc-preserved c = rw c.in_ok-push-2.ensures.ok (sym (names_turn c.args.nesting c.loop-alloc.names c.loop-alloc.rest.tokens.now (sym c.loop-alloc-test.ensures) ∙ rw (c.in_ok-name.ensures) refl) ∙ c.loop-alloc.invariant)
