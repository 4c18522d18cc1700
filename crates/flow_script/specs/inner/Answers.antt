-- What the functions of the reader return.
use Rattle.std.specs.Prelude.{◌≡◌, ℕ, ◌⊎◌, List, [], ◌∷◌, ◌++◌, Option, Some, None, Result, Ok, Err}
use Rattle.flow_term.specs.declared.path_text.PathRefusal.{PathRefusal}
use Rattle.flow_term.specs.declared.path_text.PathRefusal.TheVariants as paths
use Rattle.flow_term.specs.declared.term.Term.{Term}
use Rattle.aterm_text.specs.Grammar.{TermText}
use Rattle.aterm_text.specs.declared.refusal.TermRefusal.{TermRefusal}
use Rattle.aterm_text.specs.declared.refusal.TermRefusal.TheVariants as terms
use Rattle.flow_script.specs.declared.command.Command.{Command}
use Rattle.flow_script.specs.declared.command.Line.{Line}
use Rattle.flow_script.specs.declared.refusal.ScriptFaultKind.TheVariants as kind
use Rattle.flow_script.specs.declared.refusal.LineRefusal.{LineRefusal}
use Rattle.flow_script.specs.declared.refusal.LineRefusal.TheVariants as line
use Rattle.flow_script.specs.declared.refusal.ScriptRefusal.{ScriptRefusal}
use Rattle.flow_script.specs.declared.refusal.ScriptRefusal.TheVariants as script
use Rattle.flow_script.specs.Forms.{Form, nothing}
use Rattle.flow_script.specs.Scripts.{HasFault, IsCommand, IsNumber, IsPathText}

-- REFUSALS

abbrev pub at_line : ℕ → LineRefusal → ScriptRefusal
at_line number (line.Fault k) = script.Fault number k
at_line number line.NoMemory = script.NoMemory

abbrev pub refused_path : PathRefusal → LineRefusal
refused_path paths.Form = line.Fault kind.Path
refused_path paths.NoMemory = line.NoMemory

abbrev pub refused_term : TermRefusal → LineRefusal
refused_term (terms.Fault _ _) = line.Fault kind.Term
refused_term terms.NoMemory = line.NoMemory

-- ANSWERS

-- the path of which this is the text; a fault where it's that of none
abbrev pub AnswersPath : List ℕ → Result (List ℕ) LineRefusal → Type 0
AnswersPath text (Ok path) = IsPathText text path
AnswersPath text (Err (line.Fault k)) = (k ≡ kind.Path) × ((path : List ℕ) → ¬ IsPathText text path)
AnswersPath text (Err line.NoMemory) = Unit {0}

-- likewise of terms
abbrev pub AnswersTerm : List ℕ → Result Term LineRefusal → Type 0
AnswersTerm text (Ok term) = TermText text term
AnswersTerm text (Err (line.Fault k)) = (k ≡ kind.Term) × ((term : Term) → ¬ TermText text term)
AnswersTerm text (Err line.NoMemory) = Unit {0}

-- likewise of numbers
abbrev pub AnswersNumber : List ℕ → Option ℕ → Type 0
AnswersNumber text (Some n) = IsNumber text n
AnswersNumber text None = (n : ℕ) → ¬ IsNumber text n

-- the command of a line of this form, or its fault
abbrev pub Answers : Form → Result Command LineRefusal → Type 0
Answers form (Ok c) = IsCommand form c
Answers form (Err (line.Fault k)) = HasFault form k
Answers form (Err line.NoMemory) = Unit {0}

-- likewise of a line that may have none
abbrev pub AnswersLine : Form → Result (Option Command) LineRefusal → Type 0
AnswersLine form (Ok None) = form ≡ nothing
AnswersLine form (Ok (Some c)) = IsCommand form c
AnswersLine form (Err (line.Fault k)) = HasFault form k
AnswersLine form (Err line.NoMemory) = Unit {0}

-- a line of this form added its command, if it has one
abbrev pub AddsLine : ℕ → Form → List Line → List Line → Type 0
AddsLine number form before after = ((form ≡ nothing) × (after ≡ before)) ⊎ ((c : Command) × IsCommand form c × (after ≡ before ++ record { number = number; command = c } ∷ []))

-- a line of this form is refused for its fault, unless memory ran out
abbrev pub HasFaultAt : ℕ → Form → ScriptRefusal → Type 0
HasFaultAt number form (script.Fault n k) = (n ≡ number) × HasFault form k
HasFaultAt number form script.NoMemory = Unit {0}
