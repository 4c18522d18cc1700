-- Open brackets: what closes them, and what they become.
use Rattle.std.specs.Prelude.{ℕ, ◌∷◌, ◌++◌, []}
use Rattle.flow_term.specs.declared.term.Term.{Term}
use Rattle.aterm_text.specs.declared.open.Open.{Open}
use Rattle.aterm_text.specs.declared.open.Opener.{Opener}
use Rattle.aterm_text.specs.declared.open.Opener.TheVariants.{Call, Tuple, Items, Annotations}

-- `)`, `]` or `}`
abbrev pub closing_byte_of : Opener → ℕ
closing_byte_of (Call name) = 41
closing_byte_of Tuple = 41
closing_byte_of Items = 93
closing_byte_of (Annotations kind) = 125

-- one item more
abbrev pub with_item : Open → Term → Open
with_item o t = record o { items = o.items ++ t ∷ [] }
