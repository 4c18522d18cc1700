-- What the functions of the reader answer.
use Rattle.std.specs.Prelude.{◌≡◌, ◌<◌, ◌≤◌, ◌+◌, ◌==◌, if◌then◌else◌, ℕ, List, [], ◌∷◌, ◌++◌, length, Result, Ok, Err}
use Rattle.line_theory.specs.Lines.{lines_of}
use Rattle.line_theory.specs.Places.{IsWrong, LeadTo}
use Rattle.cert_text.specs.declared.certificate.Certificate.{Certificate}
use Rattle.cert_text.specs.declared.place.CertFaultKind.{CertFaultKind}
use Rattle.cert_text.specs.declared.place.CertFaultKind.TheVariants as fault
use Rattle.cert_text.specs.declared.place.Place.{Place}
use Rattle.cert_text.specs.declared.place.Place.TheVariants as place
use Rattle.cert_text.specs.declared.place.Progress.{Progress}
use Rattle.cert_text.specs.declared.refusal.CertRefusal.{CertRefusal}
use Rattle.cert_text.specs.declared.refusal.CertRefusal.TheVariants.{Fault, NoMemory}
use Rattle.cert_text.specs.declared.refusal.LineFault.{LineFault}
use Rattle.cert_text.specs.declared.refusal.LineFault.TheVariants as line
use Rattle.cert_text.specs.Lines.{Fits, FitsAt, IsFaulty, IsLast, KindAt, at, start}

abbrev pub lined : List ℕ → List ℕ
lined body = body ++ 10 ∷ []

-- a line at this place, behind what was read: it leads on, or it may not stand there, and of which kind the fault is
abbrev pub MovesAt : {X : Type 0} → Place → Certificate → List ℕ → Result X LineFault → Progress → Type 0
MovesAt p c body (Ok _) new = FitsAt p c (lined body) new
MovesAt p c body (Err (line.Fault kind)) new = ((q : Progress) → ¬ FitsAt p c (lined body) q) × ((more : List (List ℕ)) → KindAt p (lined body ∷ more) kind)
MovesAt p c body (Err line.NoMemory) new = Unit {0}

abbrev pub Moves : {X : Type 0} → Progress → List ℕ → Result X LineFault → Progress → Type 0
Moves old body r new = MovesAt old.place old.certificate body r new

-- the first fault of the lines stands at this place, in front of all of them
abbrev pub IsRefused : Progress → List (List ℕ) → ℕ → CertRefusal → Type 0
IsRefused p lines number (Fault n kind) = (n ≡ number) × IsWrong Fits IsLast p lines × KindAt p.place lines kind
IsRefused p lines number NoMemory = Unit {0}

-- the kind of a fault where no line stands, or one without line feed
abbrev pub kind_left : ℕ → CertFaultKind → CertFaultKind
kind_left n none = if n == 0 then none else fault.Form

abbrev pub kind_without : Place → CertFaultKind
kind_without place.Header = fault.Header
kind_without place.EdgeCount = fault.Count
kind_without (place.Edges n) = kind_left n fault.Count
kind_without (place.Steps n) = kind_left n fault.Count
kind_without (place.Values n) = kind_left n fault.End
kind_without place.Finished = fault.End

-- a fault with the number of its line
abbrev pub at_line : LineFault → ℕ → CertRefusal
at_line (line.Fault kind) n = Fault n kind
at_line line.NoMemory n = NoMemory

-- what reading all lines answers
abbrev pub Reads : List ℕ → Result Certificate CertRefusal → Type 0
Reads bytes (Ok c) = LeadTo Fits IsLast start (lines_of bytes) (at place.Finished c)
Reads bytes (Err (Fault n kind)) = IsFaulty bytes n kind
Reads bytes (Err NoMemory) = Unit {0}

-- the lines before the rest lead to here, and the next one has this number
pub record HasRead (bytes rest : List ℕ) (here : Progress) (number : ℕ) : Type 0 where
  pub front : List (List ℕ)
  pub split : lines_of bytes ≡ front ++ lines_of rest
  pub leads : LeadTo Fits IsLast start front here
  pub is : number ≡ 1 + length front
  pub small : number + length rest ≤ length bytes + 1

-- the first line of the bytes leads on to those behind it
pub record Takes (old : Progress) (bytes rest : List ℕ) (new : Progress) : Type 0 where
  pub first : List ℕ
  pub lines : lines_of bytes ≡ first ∷ lines_of rest
  pub fits : Fits old first new
  pub shorter : length rest < length bytes
