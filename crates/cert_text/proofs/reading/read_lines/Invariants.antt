use Rattle.std.proofs.Common.{length}
use Rattle.cert_text.specs.inner.Moves.{HasRead}
use Rattle.cert_text.proofs.reading.read_lines.Given as goal

abbrev pub invariant-loop-rest : goal.invariant-loop-rest
invariant-loop-rest l = HasRead l.fn.bytes l.rest l.progress l.number

abbrev pub decreases-loop-rest : goal.decreases-loop-rest
decreases-loop-rest l = length l.rest
