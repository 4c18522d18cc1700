-- Whether a value is one of a domain, and whether one value is below another, as tests.
use Rattle.std.specs.Prelude.{ℕ, Bool, true, false, not, ◌&&◌, List, [], ◌∷◌, bytes_eq}
use Rattle.std.specs.List.{list_all}
use Rattle.std.specs.Ordering.{eq_by_cmp, is_lt}
use Rattle.std.specs.Map.{keys_of, values_of}
use Rattle.flow_term.specs.declared.elem.Elem.{Elem}
use Rattle.flow_term.specs.declared.value.Value.{Value, Value-F, out-Value}
use Rattle.flow_term.specs.Elements.{elem_cmp}
use Rattle.flow_syntax.specs.Types.{Sort}
use Rattle.value_domains.specs.Domains.{Domain, may, must, flat, map_to, pair_of, listed, Table, has_element, table_join, item_in, least_of}
use Rattle.value_domains.specs.Values.{ValueLayer, has_elem, is_of_sort, elems_in, map_in, left_in, right_in, value_or}

-- ORDER

-- whether each element of the second list is in the first
abbrev pub includes : List Elem → List Elem → Bool
includes xs ys = list_all (has_elem xs) ys

abbrev pub is_below_must : ValueLayer → ValueLayer → Bool
is_below_must Value-F.Unreached b = true
is_below_must (Value-F.Set xs) (Value-F.Set ys) = includes xs ys
is_below_must _ _ = false

abbrev pub is_below_flat : ValueLayer → ValueLayer → Bool
is_below_flat Value-F.Bottom b = true
is_below_flat a Value-F.Top = true
is_below_flat (Value-F.Flat x) (Value-F.Flat y) = eq_by_cmp elem_cmp x y
is_below_flat _ _ = false

-- whether the join of two elements of a table is the second
abbrev pub is_below_item : Table → List ℕ → List ℕ → Bool
is_below_item t a b = bytes_eq (table_join t a b) b

-- whether one value of a domain is below another; of maps at each key of the first
abbrev pub is_below : Domain → Value → Value → Bool
is_below (may sort) a b = includes (elems_in (out-Value b)) (elems_in (out-Value a))
is_below (must sort) a b = is_below_must (out-Value a) (out-Value b)
is_below (flat sort) a b = is_below_flat (out-Value a) (out-Value b)
is_below (map_to sort inner) a b = list_all (λ e. is_below inner (value_or (least_of inner) (map_in (out-Value a)) e.0) (value_or (least_of inner) (map_in (out-Value b)) e.0)) (map_in (out-Value a))
is_below (pair_of left right) a b = is_below left (left_in (out-Value a)) (left_in (out-Value b)) && is_below right (right_in (out-Value a)) (right_in (out-Value b))
is_below (listed t) a b = is_below_item t (item_in (out-Value a)) (item_in (out-Value b))

-- VALUES

-- whether each element is below all those behind it
abbrev pub rises : List Elem → Bool
rises [] = true
rises (x ∷ xs) = list_all (λ y. is_lt (elem_cmp x y)) xs && rises xs

abbrev pub is_set : Sort → List Elem → Bool
is_set sort xs = rises xs && list_all (is_of_sort sort) xs

abbrev pub is_may : Sort → ValueLayer → Bool
is_may sort (Value-F.Set xs) = is_set sort xs
is_may sort _ = false

abbrev pub is_must : Sort → ValueLayer → Bool
is_must sort Value-F.Unreached = true
is_must sort (Value-F.Set xs) = is_set sort xs
is_must sort _ = false

abbrev pub is_flat : Sort → ValueLayer → Bool
is_flat sort Value-F.Bottom = true
is_flat sort (Value-F.Flat x) = is_of_sort sort x
is_flat sort Value-F.Top = true
is_flat sort _ = false

abbrev pub is_map : Sort → (Value → Bool) → ValueLayer → Bool
is_map sort is_kept (Value-F.Map entries) = is_set sort (keys_of (map_in (Value-F.Map entries))) && list_all is_kept (values_of (map_in (Value-F.Map entries)))
is_map sort is_kept _ = false

abbrev pub is_pair : (Value → Bool) → (Value → Bool) → ValueLayer → Bool
is_pair is_left is_right (Value-F.Pair left right) = is_left left && is_right right
is_pair is_left is_right _ = false

abbrev pub is_item : Table → ValueLayer → Bool
is_item t (Value-F.Item x) = has_element t x
is_item t _ = false

-- whether a value is one of the domain; a map keeps none that is below the least
abbrev pub is_valid : Domain → Value → Bool
is_valid (may sort) v = is_may sort (out-Value v)
is_valid (must sort) v = is_must sort (out-Value v)
is_valid (flat sort) v = is_flat sort (out-Value v)
is_valid (map_to sort inner) v = is_map sort (λ w. is_valid inner w && not (is_below inner w (least_of inner))) (out-Value v)
is_valid (pair_of left right) v = is_pair (is_valid left) (is_valid right) (out-Value v)
is_valid (listed t) v = is_item t (out-Value v)
