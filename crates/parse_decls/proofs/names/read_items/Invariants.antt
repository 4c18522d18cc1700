use Rattle.std.proofs.Common.{◌≡◌, length}
use Rattle.spec_grammar.proofs.Listings.{more_listed}
use Rattle.spec_grammar.specs.Parts.{identifier, named}
use Rattle.spec_grammar.specs.declared.kind.Kind.TheVariants as kinds
use Rattle.parse_decls.specs.inner.Pieces.{reads_items}
use Rattle.parse_decls.proofs.names.read_items.Given as goal

abbrev pub invariant-loop-alloc : goal.invariant-loop-alloc
invariant-loop-alloc l = more_listed l.nesting kinds.Bar identifier named l.items l.rest.tokens.now ≡ reads_items l.nesting l.cursor.tokens.now

abbrev pub decreases-loop-alloc : goal.decreases-loop-alloc
decreases-loop-alloc l = length l.rest.tokens.now
