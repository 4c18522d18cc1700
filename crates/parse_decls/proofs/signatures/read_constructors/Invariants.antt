use Rattle.std.proofs.Common.{◌≡◌, length}
use Rattle.spec_grammar.proofs.Turns.{more_of}
use Rattle.parse_decls.specs.inner.Pieces.{reads_each}
use Rattle.spec_grammar.specs.Symbols.{AConstructor}
use Rattle.parse_decls.proofs.signatures.read_constructors.Given as goal

abbrev pub invariant-loop-alloc : goal.invariant-loop-alloc
invariant-loop-alloc l = more_of 0 AConstructor l.constructors l.rest.tokens.now ≡ reads_each 0 AConstructor l.cursor.tokens.now

abbrev pub decreases-loop-alloc : goal.decreases-loop-alloc
decreases-loop-alloc l = length l.rest.tokens.now
