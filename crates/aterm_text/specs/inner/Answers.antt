-- What the reader's functions return, against the machine.
use Rattle.std.specs.Prelude.{◌≡◌, ℕ, ◌<◌, reverse, Result, Ok, Err, IsUtf8}
use Rattle.flow_term.specs.declared.term.Term.{Term}
use Rattle.aterm_text.specs.declared.reader.state.Last.{Last}
use Rattle.aterm_text.specs.declared.reader.state.Last.TheVariants as last
use Rattle.aterm_text.specs.declared.reader.state.Reader.{Reader}
use Rattle.aterm_text.specs.declared.refusal.TermFaultKind.{TermFaultKind}
use Rattle.aterm_text.specs.declared.refusal.TermRefusal.{TermRefusal}
use Rattle.aterm_text.specs.declared.refusal.TermRefusal.TheVariants.{Fault, NoMemory}
use Rattle.aterm_text.specs.inner.Machine.{State, state, Next}

-- the state of a reader
abbrev pub state_of : Reader → State
state_of r = state (reverse r.levels.open) r.levels.begun r.last

abbrev pub fault_of : ℕ → TermFaultKind → TermRefusal
fault_of offset kind = Fault offset kind

-- the next state, or the fault, unless memory ran out
abbrev pub Answers : Result Reader TermRefusal → Next → Type 0
Answers (Ok r) next = next ≡ Ok (state_of r)
Answers (Err (Fault offset kind)) next = next ≡ Err (offset, kind)
Answers (Err NoMemory) next = Unit {0}

-- likewise the term
abbrev pub AnswersTerm : Result Term TermRefusal → Result Term (ℕ × TermFaultKind) → Type 0
AnswersTerm (Ok t) next = next ≡ Ok t
AnswersTerm (Err (Fault offset kind)) next = next ≡ Err (offset, kind)
AnswersTerm (Err NoMemory) next = Unit {0}

-- what a byte may be met in: what closes is UTF-8, and the octal digits so far give a small value
abbrev pub IsReady : Last → ℕ → Type 0
IsReady (last.Inside chars) c = c ≡ 34 → IsUtf8 chars
IsReady (last.OneOctal e value) c = value < 2
IsReady (last.TwoOctals e value) c = value < 16
IsReady _ c = Unit {0}

-- a fact of what was found
abbrev pub IfFault : Result Term TermRefusal → (ℕ → TermFaultKind → Type 0) → Type 0
IfFault (Err (Fault offset kind)) P = P offset kind
IfFault _ P = Unit {0}

-- a fact, unless memory ran out
abbrev pub UnlessNoMemory : Result Term TermRefusal → Type 0 → Type 0
UnlessNoMemory (Err NoMemory) P = Unit {0}
UnlessNoMemory _ P = P
