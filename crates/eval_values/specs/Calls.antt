-- The number of a tuple of elements, as far as there are numbers.
use Rattle.std.specs.Prelude.{ℕ, ◌+◌, ◌*◌, ◌-◌, ◌^◌, List, Option, Some, None, length, min, slice_get}
use Rattle.flow_term.specs.declared.value.Value.{Value, out-Value}
use Rattle.value_domains.specs.Domains.{item_in, place_in}

-- the largest number, which stands for all greater ones too
abbrev pub most : ℕ
most = 2 ^ 64 - 1

abbrev pub row_over : ℕ → Option (List (List ℕ)) → Value → ℕ
row_over row (Some names) v = min (min (row * length names) most + place_in names (item_in (out-Value v))) most
row_over row None v = row

-- the number with one element more, whose lattice stands at this place
abbrev pub next_row : ℕ → List (List (List ℕ)) → ℕ → Value → ℕ
next_row row lattices at v = row_over row (slice_get lattices at) v
