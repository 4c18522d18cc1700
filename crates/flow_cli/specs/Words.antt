-- What the words of a call ask for.
use Rattle.std.specs.Prelude.{ℕ, List, [], ◌∷◌, Option, Some, None, bytes_eq, codes, if◌then◌else◌}
use Rattle.flow_cli.specs.declared.words.Request.{Request}
use Rattle.flow_cli.specs.declared.words.Request.TheVariants.{Graph}

-- `graph SPEC TREE`, with any words in the places of the two files. All other words ask for nothing
abbrev pub request_of : List (List ℕ) → Option Request
request_of (command ∷ spec ∷ tree ∷ []) = if bytes_eq command (codes "graph") then Some (Graph spec tree) else None
request_of _ = None
