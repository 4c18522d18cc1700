use Rattle.cert_text.proofs.Steps.{more}
use Rattle.cert_text.proofs.reading.read_lines.Goals as goal

pub loop-rest-preserved : goal.loop-rest-preserved
loop-rest-preserved c = more c.args.bytes.now c.loop-rest.rest.now c.in_ok-rest.rest.now c.loop-rest.progress c.read_line.new.progress c.loop-rest.number c.loop-rest.invariant c.in_ok-rest.ensures.taken
