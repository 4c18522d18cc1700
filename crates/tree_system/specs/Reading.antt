-- What is read of values by number: of a property's unknown, at the place of the property behind the first unknown of a node.
use Rattle.std.specs.Prelude.{ℕ, ◌+◌, ◌^◌, nat_lt, Bool, ◌&&◌, cond, List, Option, None, get_or, is_some, length, slice_index_or, unwrap_or}
use Rattle.flow_term.specs.declared.value.Value.{Value}
use Rattle.flow_term.specs.declared.value.Value.TheVariants as value
use Rattle.flow_syntax.specs.declared.expr.Side.{Side}
use Rattle.flow_syntax.specs.declared.expr.Side.TheVariants as side
use Rattle.tree_system.specs.declared.reading.Bases.{Bases}

-- the number of the first unknown of the node at a side
abbrev pub base_at : Bases → Side → ℕ
base_at b side.This = b.this
base_at b side.Prev = b.other
base_at b side.Next = b.other

-- the number of a property's unknown at a side, where this is the place of each property
abbrev pub number_at : Bases → List ℕ → ℕ → Side → ℕ
number_at b places p s = base_at b s + get_or places p 0

-- whether there is a value of the property at the side, whose number fits a machine's word
abbrev pub has_value : List (Option Value) → Bases → List ℕ → ℕ → Side → Bool
has_value values b places p s = nat_lt p (length places) && (nat_lt (number_at b places p s) (2 ^ 64) && is_some (slice_index_or values (number_at b places p s) None))

-- the value of the property at the side; bottom where there is no such property
abbrev pub value_there : List (Option Value) → Bases → List ℕ → ℕ → Side → Value
value_there values b places p s = cond (nat_lt p (length places)) (unwrap_or (slice_index_or values (number_at b places p s) None) value.Bottom) value.Bottom
