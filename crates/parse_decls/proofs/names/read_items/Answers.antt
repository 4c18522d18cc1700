use Rattle.std.proofs.Common.{◌≡◌, ◌∷◌, [], ◌++◌, refl, sym, ap, ◌∙◌}
use Rattle.spec_grammar.proofs.Listings.{listed_at, listed_turn}
use Rattle.spec_grammar.specs.Parts.{identifier, named}
use Rattle.spec_grammar.specs.declared.kind.Kind.TheVariants as kinds
use Rattle.parse_decls.proofs.names.read_items.Goals as goal

pub loop-alloc-init : goal.loop-alloc-init
loop-alloc-init c =
    let items : c.push.new.self ≡ c.in_ok-first.first ∷ [] = c.in_ok-push.ensures.ok ∙ ap (λ xs. xs ++ c.in_ok-first.first ∷ []) c.new-items.ensures in
    rw (items, listed_at c.args.nesting kinds.Bar identifier named c.args.cursor.tokens.now, c.in_ok-first.ensures) refl

pub loop-alloc-preserved : goal.loop-alloc-preserved
loop-alloc-preserved c = rw c.in_ok-push-2.ensures.ok (sym (listed_turn c.args.nesting kinds.Bar identifier refl refl named c.loop-alloc.items c.loop-alloc.rest.tokens.now (sym c.loop-alloc-test.ensures) ∙ rw (c.in_ok-after.ensures.reads, c.in_ok-item.ensures) refl) ∙ c.loop-alloc.invariant)
