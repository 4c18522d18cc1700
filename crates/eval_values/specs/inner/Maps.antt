-- Entries of maps by their places.
use Rattle.std.specs.Prelude.{ℕ, Bool, false, List, Option, Some, None}
use Rattle.std.specs.List.{position_or_len}
use Rattle.std.specs.Ordering.{is_le, eq_by_cmp}
use Rattle.flow_term.specs.declared.elem.Elem.{Elem}
use Rattle.flow_term.specs.declared.value.Entry.{Entry}
use Rattle.flow_term.specs.Elements.{elem_cmp}

-- how many entries at the front have lesser keys
abbrev pub lesser_count : Elem → List Entry → ℕ
lesser_count k es = position_or_len (λ e. is_le (elem_cmp k e.key)) es

-- whether there is an entry, with this key
abbrev pub has_key : Elem → Option Entry → Bool
has_key k None = false
has_key k (Some e) = eq_by_cmp elem_cmp k e.key
