-- Which bytes are a text of which script, and which is the first fault of others.
use Rattle.std.specs.Prelude.{◌≡◌, ℕ, ◌+◌, ◌<◌, ◌≤◌, ◌⊎◌, ◌==◌, true, List, [], ◌∷◌, length, take, Some, IsUtf8, slice_get}
use Rattle.std.specs.List.{count_by}
use Rattle.std.specs.Str.{IsValidUpTo, all_ascii_digits}
use Rattle.std.specs.Str.Lines.{lines}
use Rattle.std.specs.Str.Parse.{digits_value}
use Rattle.flow_term.specs.Paths.{AreSteps, path_text}
use Rattle.flow_term.specs.declared.term.Term.{Term}
use Rattle.aterm_text.specs.Grammar.{TermText}
use Rattle.flow_script.specs.declared.command.Command.{Command}
use Rattle.flow_script.specs.declared.command.Command.TheVariants as command
use Rattle.flow_script.specs.declared.command.Line.{Line}
use Rattle.flow_script.specs.declared.refusal.ScriptFaultKind.{ScriptFaultKind}
use Rattle.flow_script.specs.declared.refusal.ScriptFaultKind.TheVariants as fault
use Rattle.flow_script.specs.Forms.{Form, edit, form_of_line, nothing, solve, unknown, word}

-- THE PARTS OF COMMANDS

-- the text of a path whose numbers are below 2^32
abbrev pub IsPathText : List ℕ → List ℕ → Type 0
IsPathText text path = AreSteps path × (path_text path ≡ text)

-- one to nineteen digits, and the number that they write in decimal
pub record IsNumber (text : List ℕ) (n : ℕ) : Type 0 where
  pub digits : all_ascii_digits text ≡ true
  pub some : 1 ≤ length text
  pub few : length text ≤ 19
  pub value : n ≡ digits_value 10 text

-- LINES

-- A line of this form has the command.
abbrev pub IsCommand : Form → Command → Type 0
IsCommand (edit p t) c = (path : List ℕ) × (term : Term) × IsPathText p path × TermText t term × (c ≡ command.Edit path term)
IsCommand (solve d) c = (n : ℕ) × IsNumber d n × (c ≡ command.Solve n)
IsCommand (word w) c = c ≡ w
IsCommand _ c = ⊥

-- A line of this form has the fault. Where both parts of an `edit` are wrong, the fault is its path's.
abbrev pub HasFault : Form → ScriptFaultKind → Type 0
HasFault (edit p t) kind = (((path : List ℕ) → ¬ IsPathText p path) × (kind ≡ fault.Path))
    ⊎ (((path : List ℕ) × IsPathText p path) × ((term : Term) → ¬ TermText t term) × (kind ≡ fault.Term))
HasFault (solve d) kind = ((n : ℕ) → ¬ IsNumber d n) × (kind ≡ fault.Number)
HasFault unknown kind = kind ≡ fault.Command
HasFault _ kind = ⊥

-- Lines, of which the first has this number, have these commands; the other lines are empty or comments.
abbrev pub AreCommands : ℕ → List (List ℕ) → List Line → Type 0
AreCommands n [] script = script ≡ []
AreCommands n (line ∷ rest) script =
    ((form_of_line line ≡ nothing) × AreCommands (n + 1) rest script)
    ⊎ ((c : Command) × (others : List Line) × IsCommand (form_of_line line) c × AreCommands (n + 1) rest others × (script ≡ record { number = n; command = c } ∷ others))

-- The line of this number, counted from 1, has the fault, and none before it has one.
pub record IsFirstFault (all : List (List ℕ)) (number : ℕ) (kind : ScriptFaultKind) : Type 0 where
  pub at : ℕ
  pub counted : number ≡ at + 1
  pub line : List ℕ
  pub stands : slice_get all at ≡ Some line
  pub fault : HasFault (form_of_line line) kind
  pub none_before : (earlier : ℕ) (other : List ℕ) (k : ScriptFaultKind) → earlier < at → slice_get all earlier ≡ Some other → ¬ HasFault (form_of_line other) k

-- SCRIPTS

-- The bytes are a text of the script: UTF-8, and its lines have these commands.
pub record ScriptText (bytes : List ℕ) (script : List Line) : Type 0 where
  pub utf8 : IsUtf8 bytes
  pub commands : AreCommands 1 (lines bytes) script

-- the number of the line in which one is behind these bytes
abbrev pub line_behind : List ℕ → ℕ
line_behind bytes = 1 + count_by (λ b. b == 10) bytes

-- The bytes are a text of no script, and their first fault is:
pub data ScriptFaulty (bytes : List ℕ) (number : ℕ) (kind : ScriptFaultKind) : Type 0 where
  -- that they aren't UTF-8, at the line of the first byte that begins no character
  no_text : (valid : ℕ) → IsValidUpTo bytes valid → number ≡ line_behind (take valid bytes) → kind ≡ fault.NotUtf8 → ScriptFaulty bytes number kind
  -- the first fault of a line
  of_line : IsUtf8 bytes → IsFirstFault (lines bytes) number kind → ScriptFaulty bytes number kind
