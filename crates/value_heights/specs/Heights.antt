-- How often a value can rise, where it is made of given elements, and how high it stands.
use Rattle.std.specs.Prelude.{ℕ, ◌+◌, ◌*◌, ◌-◌, ◌≤◌, Bool, true, ◌&&◌, cond, List, length, sum_by}
use Rattle.std.specs.List.{list_all}
use Rattle.flow_term.specs.declared.elem.Elem.{Elem}
use Rattle.flow_term.specs.declared.value.Value.{Value, Value-F, out-Value}
use Rattle.flow_syntax.specs.Types.{Sort, int_sort}
use Rattle.value_domains.specs.Domains.{Domain, may, must, flat, map_to, pair_of, listed, Table, item_in, least_of}
use Rattle.value_domains.specs.Values.{ValueLayer, has_elem, elems_in, map_in, left_in, right_in, value_or}
use Rattle.value_heights.specs.Tests.{is_below_item}

-- no fewer elements of any sort in the second
abbrev pub HasNoMore : (Sort → List Elem) → (Sort → List Elem) → Type 0
HasNoMore few many = (sort : Sort) → length (few sort) ≤ length (many sort)

-- the elements of each sort
module _ (elements : Sort → List Elem) where
  -- whether the element of a flat value is one of them; each integer is, since flat values alone have integers, and their height asks for no number of elements
  abbrev pub is_among : Sort → Elem → Bool
  is_among int_sort e = true
  is_among sort e = has_elem (elements sort) e

  abbrev pub is_flat_within : Sort → ValueLayer → Bool
  is_flat_within sort (Value-F.Flat e) = is_among sort e
  is_flat_within sort _ = true

  -- whether a value of the domain is made of them
  abbrev pub is_within : Domain → Value → Bool
  is_within (may sort) v = list_all (has_elem (elements sort)) (elems_in (out-Value v))
  is_within (must sort) v = list_all (has_elem (elements sort)) (elems_in (out-Value v))
  is_within (flat sort) v = is_flat_within sort (out-Value v)
  is_within (map_to sort inner) v = list_all (λ e. has_elem (elements sort) e.0 && is_within inner e.1) (map_in (out-Value v))
  is_within (pair_of left right) v = is_within left (left_in (out-Value v)) && is_within right (right_in (out-Value v))
  is_within (listed t) v = true

  -- how often a value can rise strictly, at most
  abbrev pub height_of : Domain → ℕ
  height_of (may sort) = length (elements sort)
  height_of (must sort) = length (elements sort) + 1
  height_of (flat sort) = 2
  height_of (map_to sort inner) = length (elements sort) * height_of inner
  height_of (pair_of left right) = height_of left + height_of right
  height_of (listed t) = length t.elements - 1

  abbrev pub must_rank : Sort → ValueLayer → ℕ
  must_rank sort (Value-F.Set xs) = 1 + sum_by (λ e. cond (has_elem xs e) 0 1) (elements sort)
  must_rank sort _ = 0

  abbrev pub flat_rank : ValueLayer → ℕ
  flat_rank (Value-F.Flat x) = 1
  flat_rank Value-F.Top = 2
  flat_rank _ = 0

  abbrev pub item_rank : Table → List ℕ → ℕ
  item_rank t x = sum_by (λ y. cond (is_below_item t x y) 0 1) t.elements

  -- how many rises a value has behind it: of a may set one for each element that it has; of a must set one for being reached, and one for each element
  -- that it lacks; of a map those of the value at each key; of a table's element one for each that it isn't below
  abbrev pub rank_of : Domain → Value → ℕ
  rank_of (may sort) v = sum_by (λ e. cond (has_elem (elems_in (out-Value v)) e) 1 0) (elements sort)
  rank_of (must sort) v = must_rank sort (out-Value v)
  rank_of (flat sort) v = flat_rank (out-Value v)
  rank_of (map_to sort inner) v = sum_by (λ e. rank_of inner (value_or (least_of inner) (map_in (out-Value v)) e)) (elements sort)
  rank_of (pair_of left right) v = rank_of left (left_in (out-Value v)) + rank_of right (right_in (out-Value v))
  rank_of (listed t) v = item_rank t (item_in (out-Value v))
