-- What was written of an output.
use Rattle.std.specs.Prelude.{◌≡◌, ℕ, ◌<◌, List, Option, length, take}
use Rattle.flow_io.specs.Pieces.{appended}
use Rattle.flow_cli.specs.declared.output.End.{End}
use Rattle.flow_cli.specs.declared.status.Status.{Status}
use Rattle.flow_cli.specs.declared.status.Status.TheVariants.{WriteFault}
use Rattle.flow_cli.specs.Outcome.{status_of}

-- Behind what was written before stands, of an output that ends so and by the status:
pub data IsWritten (bytes : List ℕ) (how : End) (before after : Option (List ℕ)) (status : Status) : Type 0 where
  -- all of it
  all : status ≡ status_of how → after ≡ appended before bytes → IsWritten bytes how before after status
  -- a part, from its front, and not all
  part : status ≡ WriteFault → (n : ℕ) → n < length bytes → after ≡ appended before (take n bytes) → IsWritten bytes how before after status
