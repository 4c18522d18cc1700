-- What each status says of the words, the files and what was written.
use Rattle.std.specs.Prelude.{◌≡◌, ◌⊎◌, ℕ, ◌<◌, List, [], Option, Some, length, take}
use Rattle.flow_io.specs.Contents.{Contents}
use Rattle.flow_io.specs.Pieces.{appended}
use Rattle.flow_cli.specs.declared.output.End.{End}
use Rattle.flow_cli.specs.declared.output.End.TheVariants as end
use Rattle.flow_cli.specs.declared.status.Status.{Status}
use Rattle.flow_cli.specs.declared.status.Status.TheVariants as status
use Rattle.flow_cli.specs.declared.words.Request.{Request}
use Rattle.flow_cli.specs.Whole.{Whole}
use Rattle.flow_cli.specs.Words.{request_of}

-- The words ask for something of which this is the whole output, with this end.
pub record IsWhole (words : List (List ℕ)) (files : Contents) (out : List ℕ) (how : End) : Type 0 where
  pub request : Request
  pub asked : request_of words ≡ Some request
  pub whole : Whole request files out how

-- The bytes are a part of a whole output, from its front, and not all of it.
pub record IsPart (words : List (List ℕ)) (files : Contents) (written : List ℕ) : Type 0 where
  pub out : List ℕ
  pub how : End
  pub whole : IsWhole words files out how
  pub n : ℕ
  pub short : n < length out
  pub part : written ≡ take n out

-- What was written, by the status, over a folder that holds these files:
abbrev pub Outcome : List (List ℕ) → Contents → List ℕ → Status → Type 0
-- the whole output
Outcome words files written status.Done = IsWhole words files written end.Done
-- the whole output, which is the line of the first file that is refused
Outcome words files written status.Refused = IsWhole words files written end.Refused
-- a part of the whole output
Outcome words files written status.WriteFault = IsPart words files written
-- nothing
Outcome words files written status.Usage = written ≡ []
Outcome words files written status.ReadFault = written ≡ []
Outcome words files written status.NoMemory = written ≡ []

-- What was written, behind what was there before, is as the status says.
pub record IsOutcome (words : List (List ℕ)) (files : Contents) (before after : Option (List ℕ)) (status : Status) : Type 0 where
  pub written : List ℕ
  pub behind : after ≡ appended before written
  pub outcome : Outcome words files written status

-- The status says that nothing was written.
abbrev pub WritesNothing : Status → Type 0
WritesNothing status.Done = ⊥
WritesNothing status.Refused = ⊥
WritesNothing status.Usage = Unit {0}
WritesNothing status.ReadFault = Unit {0}
WritesNothing status.WriteFault = ⊥
WritesNothing status.NoMemory = Unit {0}

-- the status of a run whose output was written and ends so
abbrev pub status_of : End → Status
status_of end.Done = status.Done
status_of end.Refused = status.Refused

-- The status is that of the words' whole output, unless memory ran out.
abbrev pub IsCompleted : List (List ℕ) → Contents → Status → Type 0
IsCompleted words files s = (out : List ℕ) (how : End) → IsWhole words files out how → (s ≡ status_of how) ⊎ (s ≡ status.NoMemory)

-- the program's exit status
abbrev pub number_of : Status → ℕ
number_of status.Done = 0
number_of status.Refused = 1
number_of status.Usage = 2
number_of status.ReadFault = 3
number_of status.WriteFault = 4
number_of status.NoMemory = 5
