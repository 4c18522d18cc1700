-- What a line of a script looks like, before its parts are read.
use Rattle.std.specs.Prelude.{ℕ, ◌-◌, ◌||◌, ◌==◌, Bool, true, false, not, List, [], ◌∷◌, drop, take, length, bytes_eq, codes, if◌then◌else◌}
use Rattle.std.specs.List.{prefix_len, suffix_len}
use Rattle.flow_script.specs.declared.command.Command.{Command}
use Rattle.flow_script.specs.declared.command.Command.TheVariants as command

-- THE PARTS OF A LINE

-- a space or a tab
abbrev pub is_blank : ℕ → Bool
is_blank b = b == 32 || b == 9

abbrev pub is_part : ℕ → Bool
is_part b = not (is_blank b)

-- the text without the blanks in front
abbrev pub unindented : List ℕ → List ℕ
unindented text = drop (prefix_len is_blank text) text

-- the line without the blanks round it
abbrev pub trimmed : List ℕ → List ℕ
trimmed line = let rest : List ℕ = unindented line in take (length rest - suffix_len is_blank rest) rest

-- what stands before the first blank
abbrev pub first_part : List ℕ → List ℕ
first_part text = take (prefix_len is_part text) text

-- what follows the first part and the blanks behind it
abbrev pub other_parts : List ℕ → List ℕ
other_parts text = unindented (drop (prefix_len is_part text) text)

abbrev pub is_nil : List ℕ → Bool
is_nil [] = true
is_nil (b ∷ bs) = false

-- THE FORM OF A LINE

-- No command; `edit`, with the texts of a path and of a term; `solve`, with that of a number; a command that is one word; none of these.
pub data Form : Type 0 where
  nothing : Form
  edit : (path term : List ℕ) → Form
  solve : (number : List ℕ) → Form
  word : Command → Form
  unknown : Form

-- behind `edit` stands a path, and then a term to the end of the line
abbrev pub form_of_edit : List ℕ → Form
form_of_edit parts = if is_nil (other_parts parts) then unknown else edit (first_part parts) (other_parts parts)

-- behind `solve` stands one part
abbrev pub form_of_solve : List ℕ → Form
form_of_solve parts = if is_nil parts || not (is_nil (other_parts parts)) then unknown else solve (first_part parts)

-- the other commands are one word each
abbrev pub form_of_word : List ℕ → Form
form_of_word body =
    if bytes_eq body (codes "print") then word command.Print
    else if bytes_eq body (codes "tree") then word command.Tree
    else unknown

-- the first part says which command it is
abbrev pub form_of_command : List ℕ → Form
form_of_command body =
    if bytes_eq (first_part body) (codes "edit") then form_of_edit (other_parts body)
    else if bytes_eq (first_part body) (codes "solve") then form_of_solve (other_parts body)
    else form_of_word body

-- an empty line is no command, and neither is one that begins with `#`
abbrev pub form_in : List ℕ → Form
form_in [] = nothing
form_in (b ∷ bs) = if b == 35 then nothing else form_of_command (b ∷ bs)

-- The form of a line.
abbrev pub form_of_line : List ℕ → Form
form_of_line line = form_in (trimmed line)
