use Rattle.std.proofs.Common.{◌≡◌, length}
use Rattle.parse_decls.proofs.ListLaws.{more_names}
use Rattle.parse_decls.specs.inner.Pieces.{reads_names}
use Rattle.parse_decls.proofs.names.read_names.Given as goal

abbrev pub invariant-loop-alloc : goal.invariant-loop-alloc
invariant-loop-alloc l = more_names l.nesting l.names l.rest.tokens.now ≡ reads_names l.nesting l.cursor.tokens.now

abbrev pub decreases-loop-alloc : goal.decreases-loop-alloc
decreases-loop-alloc l = length l.rest.tokens.now
