-- The lattices that types stand for, with the tables of declared ones: their values, the least of them, their joins and their order.
use Rattle.std.specs.Prelude.{◌≡◌, ℕ, ◌+◌, ◌*◌, Bool, true, false, IsTrue, List, [], ◌∷◌, length, map, find, bytes_eq, get_or, Option, Some, None}
use Rattle.std.specs.List.{list_any}
use Rattle.flow_term.specs.declared.elem.Elem.{Elem}
use Rattle.flow_term.specs.declared.value.Value.{Value, Value-F, out-Value, roll-Value}
use Rattle.flow_term.specs.declared.value.Value.TheVariants as value
use Rattle.flow_syntax.specs.declared.spec.Named.{Named}
use Rattle.flow_syntax.specs.declared.tables.TableDecl.{TableDecl}
use Rattle.flow_syntax.specs.declared.types.LatticeType.{LatticeType}
use Rattle.flow_syntax.specs.Types.{Sort, Lattice, lattice_of}
use Rattle.flow_syntax.specs.Types as typed
use Rattle.value_domains.specs.Values.{ValueLayer, union_of, elems_in, map_in, left_in, right_in, entries_of, map_join, value_or, must_join, flat_join, IsMay, IsMust, IsFlat, IsMapTo, IsPairOf, Includes, IsBelowMust, IsBelowFlat}

-- TABLES

-- a declared lattice: its elements, the least of them, and the join of each two, row by row
pub record Table : Type 0 where
  pub elements : List (List ℕ)
  pub bottom : List ℕ
  pub join : List (List ℕ)

-- the place of a name in a list, its length where it isn't there
abbrev pub place_in : List (List ℕ) → List ℕ → ℕ
place_in [] x = 0
place_in (n ∷ ns) x = elim (bytes_eq x n) as (λ b. ℕ) [ true ↦ 0 | false ↦ place_in ns x + 1 ]

abbrev pub has_element : Table → List ℕ → Bool
has_element t x = list_any (bytes_eq x) t.elements

-- the join of two elements of a table
abbrev pub table_join : Table → List ℕ → List ℕ → List ℕ
table_join t a b = get_or t.join (place_in t.elements a * length t.elements + place_in t.elements b) t.bottom

-- DOMAINS

-- a lattice, with the table of each declared one
pub data Domain : Type 0 where
  may : Sort → Domain
  must : Sort → Domain
  flat : Sort → Domain
  map_to : Sort → Domain → Domain
  pair_of : Domain → Domain → Domain
  listed : Table → Domain

abbrev pub texts_of : List Named → List (List ℕ)
texts_of names = map (λ n. n.text) names

-- the lattice of one element, which stands for one that isn't declared
abbrev pub one_element : Table
one_element = record { elements = [] ∷ []; bottom = []; join = [] ∷ [] }

abbrev pub table_of : Option TableDecl → Table
table_of (Some d) = record { elements = texts_of d.elements; bottom = d.bottom.text; join = texts_of d.join }
table_of None = one_element

-- the declared lattice of this name
abbrev pub table_named : List TableDecl → List ℕ → Table
table_named declared x = table_of (find (λ d. bytes_eq x d.name.text) declared)

-- the domain of a lattice among these declarations
abbrev pub domain_of : List TableDecl → Lattice → Domain
domain_of declared (typed.may s) = may s
domain_of declared (typed.must s) = must s
domain_of declared (typed.flat s) = flat s
domain_of declared (typed.map_to s l) = map_to s (domain_of declared l)
domain_of declared (typed.pair_of a b) = pair_of (domain_of declared a) (domain_of declared b)
domain_of declared (typed.table x) = listed (table_named declared x)

-- the domain of a declared type
abbrev pub type_domain : List TableDecl → LatticeType → Domain
type_domain declared type = domain_of declared (lattice_of type)

-- VALUES, by recursion on the domain

abbrev pub item_in : ValueLayer → List ℕ
item_in (Value-F.Item x) = x
item_in _ = []

abbrev pub IsListed : Table → ValueLayer → Type 0
IsListed t (Value-F.Item x) = IsTrue (has_element t x)
IsListed t _ = ⊥

-- the least value
abbrev pub least_of : Domain → Value
least_of (may sort) = value.Set []
least_of (must sort) = value.Unreached
least_of (flat sort) = value.Bottom
least_of (map_to sort inner) = value.Map []
least_of (pair_of left right) = value.Pair (least_of left) (least_of right)
least_of (listed t) = value.Item t.bottom

-- whether a value is one of the domain
abbrev pub IsValueOf : Domain → Value → Type 0
IsValueOf (may sort) v = IsMay sort (out-Value v)
IsValueOf (must sort) v = IsMust sort (out-Value v)
IsValueOf (flat sort) v = IsFlat sort (out-Value v)
IsValueOf (map_to sort inner) v = IsMapTo sort (IsValueOf inner) (least_of inner) (out-Value v)
IsValueOf (pair_of left right) v = IsPairOf (IsValueOf left) (IsValueOf right) (out-Value v)
IsValueOf (listed t) v = IsListed t (out-Value v)

-- the join of two values
abbrev pub joined_of : Domain → Value → Value → Value
joined_of (may sort) a b = value.Set (union_of (elems_in (out-Value a)) (elems_in (out-Value b)))
joined_of (must sort) a b = roll-Value (must_join (out-Value a) (out-Value b))
joined_of (flat sort) a b = roll-Value (flat_join (out-Value a) (out-Value b))
joined_of (map_to sort inner) a b = value.Map (entries_of (map_join (joined_of inner) (map_in (out-Value a)) (map_in (out-Value b))))
joined_of (pair_of left right) a b = value.Pair (joined_of left (left_in (out-Value a)) (left_in (out-Value b))) (joined_of right (right_in (out-Value a)) (right_in (out-Value b)))
joined_of (listed t) a b = value.Item (table_join t (item_in (out-Value a)) (item_in (out-Value b)))

-- whether one value is below another: of maps at each key, of pairs in each part, of a table by the join
abbrev pub IsBelowIn : Domain → Value → Value → Type 0
IsBelowIn (may sort) a b = Includes (elems_in (out-Value b)) (elems_in (out-Value a))
IsBelowIn (must sort) a b = IsBelowMust (out-Value a) (out-Value b)
IsBelowIn (flat sort) a b = IsBelowFlat (out-Value a) (out-Value b)
IsBelowIn (map_to sort inner) a b = (k : Elem) → IsBelowIn inner (value_or (least_of inner) (map_in (out-Value a)) k) (value_or (least_of inner) (map_in (out-Value b)) k)
IsBelowIn (pair_of left right) a b = IsBelowIn left (left_in (out-Value a)) (left_in (out-Value b)) × IsBelowIn right (right_in (out-Value a)) (right_in (out-Value b))
IsBelowIn (listed t) a b = table_join t (item_in (out-Value a)) (item_in (out-Value b)) ≡ item_in (out-Value b)
