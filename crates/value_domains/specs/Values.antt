-- The values of lattices by their forms, without declared lattices: which they are, their joins and their order.
use Rattle.std.specs.Prelude.{◌≡◌, Bool, true, false, ◌&&◌, cond, ⊤, IsTrue, List, [], ◌∷◌, map, All, Contains, Option, Some, None, unwrap_or}
use Rattle.std.specs.List.{filter, list_any}
use Rattle.std.specs.List.Sorted.{IsStrictlySortedBy}
use Rattle.std.specs.Ordering.{eq_by_cmp}
use Rattle.std.specs.BTreeSet.{insert_key}
use Rattle.std.specs.BTreeMap.{insert_entry, is_at}
use Rattle.std.specs.Map.{keys_of, values_of, lookup}
use Rattle.flow_term.specs.declared.elem.Elem.{Elem, Elem-F, out-Elem}
use Rattle.flow_term.specs.declared.value.Value.{Value, Value-F}
use Rattle.flow_term.specs.declared.value.Entry.{Entry}
use Rattle.flow_term.specs.declared.value.Value.TheVariants as value
use Rattle.flow_term.specs.Elements.{elem_cmp}
use Rattle.flow_syntax.specs.Types.{Sort, name_sort, pos_sort, str_sort, int_sort, enum_sort, pair_sort}

-- ELEMENTS

-- whether an element, given by its form, is of a sort; an item is of every enum
abbrev pub form_has_sort : Sort → Elem-F Elem → Bool
form_has_sort name_sort (Elem-F.Name text) = true
form_has_sort pos_sort (Elem-F.Pos path) = true
form_has_sort str_sort (Elem-F.Str text) = true
form_has_sort int_sort (Elem-F.Int number) = true
form_has_sort (enum_sort name) (Elem-F.Item text) = true
form_has_sort (pair_sort first second) (Elem-F.Pair a b) = form_has_sort first (out-Elem a) && form_has_sort second (out-Elem b)
form_has_sort _ _ = false

-- whether an element is of a sort
abbrev pub is_of_sort : Sort → Elem → Bool
is_of_sort sort elem = form_has_sort sort (out-Elem elem)

abbrev pub IsOfSort : Sort → Elem → Type 0
IsOfSort sort elem = IsTrue (is_of_sort sort elem)

-- SETS

-- the elements rise strictly and are of the sort
pub record IsSetOf (sort : Sort) (xs : List Elem) : Type 0 where
  pub rising : IsStrictlySortedBy elem_cmp xs
  pub sorts : All (IsOfSort sort) xs

-- a with the elements of b put in, one after another
abbrev pub union_of : List Elem → List Elem → List Elem
union_of a [] = a
union_of a (x ∷ xs) = union_of (insert_key elem_cmp a x) xs

-- whether an element of the list ties with x
abbrev pub has_elem : List Elem → Elem → Bool
has_elem xs x = list_any (eq_by_cmp elem_cmp x) xs

-- the elements of a that b has
abbrev pub intersection_of : List Elem → List Elem → List Elem
intersection_of a b = filter (λ x. has_elem b x) a

-- each element of b is in a
abbrev pub Includes : List Elem → List Elem → Type 0
Includes a b = (x : Elem) → Contains b x → Contains a x

-- MAPS, as lists of keys with their values

-- the keys rise strictly and are of the sort, and each value is one of the inner lattice and isn't its least
pub record IsMapOf (sort : Sort) (IsInner : Value → Type 0) (least : Value) (m : List (Elem × Value)) : Type 0 where
  pub rising : IsStrictlySortedBy elem_cmp (keys_of m)
  pub sorts : All (IsOfSort sort) (keys_of m)
  pub kept : All (λ v. IsInner v × (v ≡ least → ⊥)) (values_of m)

-- the value at the key, where there is one
abbrev pub value_at : List (Elem × Value) → Elem → Option Value
value_at m k = lookup (is_at (elem_cmp k)) m

-- the value at the key, the least one where the key is absent
abbrev pub value_or : Value → List (Elem × Value) → Elem → Value
value_or least m k = unwrap_or (value_at m k) least

-- a value joined to the one that stands at its key, if there is one
abbrev pub joined_to : (Value → Value → Value) → Option Value → Value → Value
joined_to join None w = w
joined_to join (Some v) w = join v w

-- a with the values of b joined in at their keys, one after another
abbrev pub map_join : (Value → Value → Value) → List (Elem × Value) → List (Elem × Value) → List (Elem × Value)
map_join join a [] = a
map_join join a (e ∷ es) = map_join join (insert_entry elem_cmp a e.0 (joined_to join (value_at a e.0) e.1)) es

-- VALUES BY THEIR FORMS

-- the form of a value, with its parts
abbrev pub ValueLayer : Type 0
ValueLayer = Value-F Value Entry

-- the keys with their values
abbrev pub pairs_of : List Entry → List (Elem × Value)
pairs_of entries = map (λ e. (e.key, e.value)) entries

-- the entries of keys with their values
abbrev pub entries_of : List (Elem × Value) → List Entry
entries_of m = map (λ e. record { key = e.0; value = e.1 }) m

-- the elements of a set
abbrev pub elems_in : ValueLayer → List Elem
elems_in (Value-F.Set elems) = elems
elems_in _ = []

-- the entries of a map
abbrev pub entries_in : ValueLayer → List Entry
entries_in (Value-F.Map entries) = entries
entries_in _ = []

-- a map, as its keys with their values
abbrev pub map_in : ValueLayer → List (Elem × Value)
map_in layer = pairs_of (entries_in layer)

-- the parts of a pair
abbrev pub left_in : ValueLayer → Value
left_in (Value-F.Pair left right) = left
left_in _ = value.Bottom

abbrev pub right_in : ValueLayer → Value
right_in (Value-F.Pair left right) = right
right_in _ = value.Bottom

-- a may set is a set
abbrev pub IsMay : Sort → ValueLayer → Type 0
IsMay sort (Value-F.Set elems) = IsSetOf sort elems
IsMay sort _ = ⊥

-- a must set is a set, or what is not reached
abbrev pub IsMust : Sort → ValueLayer → Type 0
IsMust sort Value-F.Unreached = ⊤
IsMust sort (Value-F.Set elems) = IsSetOf sort elems
IsMust sort _ = ⊥

-- a flat value is bottom, one element, or top
abbrev pub IsFlat : Sort → ValueLayer → Type 0
IsFlat sort Value-F.Bottom = ⊤
IsFlat sort (Value-F.Flat elem) = IsOfSort sort elem
IsFlat sort Value-F.Top = ⊤
IsFlat sort _ = ⊥

-- a map to the values of an inner lattice
abbrev pub IsMapTo : Sort → (Value → Type 0) → Value → ValueLayer → Type 0
IsMapTo sort IsInner least (Value-F.Map entries) = IsMapOf sort IsInner least (pairs_of entries)
IsMapTo sort IsInner least _ = ⊥

-- a pair of values, one of each inner lattice
abbrev pub IsPairOf : (Value → Type 0) → (Value → Type 0) → ValueLayer → Type 0
IsPairOf IsLeft IsRight (Value-F.Pair left right) = IsLeft left × IsRight right
IsPairOf IsLeft IsRight _ = ⊥

abbrev pub IsSomePair : ValueLayer → Type 0
IsSomePair = IsPairOf (λ _. ⊤) (λ _. ⊤)

-- what is not reached has no say; of two sets, what both have
abbrev pub must_join : ValueLayer → ValueLayer → ValueLayer
must_join Value-F.Unreached b = b
must_join (Value-F.Set xs) (Value-F.Set ys) = Value-F.Set (intersection_of xs ys)
must_join a _ = a

-- bottom has no say; an element stays beside itself; all else is top
abbrev pub flat_join : ValueLayer → ValueLayer → ValueLayer
flat_join Value-F.Bottom b = b
flat_join a Value-F.Bottom = a
flat_join (Value-F.Flat x) (Value-F.Flat y) = cond (eq_by_cmp elem_cmp x y) (Value-F.Flat x) Value-F.Top
flat_join _ _ = Value-F.Top

-- what is not reached is below all; a set is below those that it includes
abbrev pub IsBelowMust : ValueLayer → ValueLayer → Type 0
IsBelowMust Value-F.Unreached b = ⊤
IsBelowMust (Value-F.Set xs) (Value-F.Set ys) = Includes xs ys
IsBelowMust _ _ = ⊥

-- bottom is below all, all are below top, and an element is below itself alone
abbrev pub IsBelowFlat : ValueLayer → ValueLayer → Type 0
IsBelowFlat Value-F.Bottom b = ⊤
IsBelowFlat a Value-F.Top = ⊤
IsBelowFlat (Value-F.Flat x) (Value-F.Flat y) = x ≡ y
IsBelowFlat _ _ = ⊥
