use Rattle.std.proofs.Common.{refl}
use Rattle.flow_cli.specs.inner.Written.{part}
use Rattle.flow_cli.proofs.running.write_output.Goals as goal

pub returns-in-Err-clause-written : goal.returns-in-Err-clause-written
returns-in-Err-clause-written g c = let some = rw c.as_slice.ensures.value at c.in-Err.ensures.err in part refl some.0 some.1 some.2
