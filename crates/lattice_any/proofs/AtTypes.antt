-- What the values of a lattice are, and their joins, by the lattice's case.
use Rattle.std.proofs.Common.{◌≡◌, ℕ, List, sym, ap, ◌∙◌, subst, IfOk}
use Rattle.std.specs.Prelude.{IsTrue, Result, Ok, Err}
use Rattle.std.specs.List.Sorted.{IsStrictlySortedBy}
use Rattle.flow_term.specs.declared.elem.Elem.{Elem}
use Rattle.flow_term.specs.declared.value.Value.{Value, Value-F, out-Value, roll-Value}
use Rattle.flow_term.specs.declared.value.Value.TheVariants as value
use Rattle.flow_term.specs.declared.value.Entry.{Entry}
use Rattle.flow_term.specs.Elements.{elem_cmp}
use Rattle.flow_syntax.specs.declared.types.ElemSort.{ElemSort}
use Rattle.lattice_sets.specs.Maps.{IsMap}
use Rattle.lattice_sets.specs.SetLaws.{rising_nothing}
use Rattle.lattice_any.specs.declared.any.AnyL.{AnyL}
use Rattle.lattice_any.specs.declared.any.AnyL.TheVariants as any
use Rattle.value_domains.specs.inner.Elements.{elem_total}
use Rattle.value_domains.specs.inner.DomainLaws.{may_opens, map_opens, pair_opens}
use Rattle.flow_syntax.specs.Types.{Sort, sort_of}
use Rattle.value_domains.specs.Domains.{Domain, Table, may, must, flat, map_to, pair_of, listed, IsListed, IsValueOf, has_element, item_in, joined_of, least_of, table_join}
use Rattle.value_domains.specs.Values.{ValueLayer, union_of, map_join, must_join, flat_join, elems_in, entries_in, left_in, right_in, pairs_of, entries_of, IsMust, IsPairOf, IsSomePair}
use Rattle.lattice_any.specs.TypeLaws.{any_laws, domain_may, domain_must, domain_flat, domain_map, domain_pair, domain_table}
use Rattle.lattice_any.specs.declared.named.NamedTable.{NamedTable}
use Rattle.lattice_any.specs.inner.Items.{IsSomeItem}
use Rattle.lattice_any.specs.Tables.{table_of_names}
use Rattle.lattice_any.specs.Types.{domain_of_any}

pub is_may : (l : AnyL) (sort : ElemSort) → l ≡ any.May sort → domain_of_any l ≡ may (sort_of sort)
is_may l sort e = ap domain_of_any e ∙ domain_may sort

pub is_must : (l : AnyL) (sort : ElemSort) → l ≡ any.Must sort → domain_of_any l ≡ must (sort_of sort)
is_must l sort e = ap domain_of_any e ∙ domain_must sort

pub is_flat : (l : AnyL) (sort : ElemSort) → l ≡ any.Flat sort → domain_of_any l ≡ flat (sort_of sort)
is_flat l sort e = ap domain_of_any e ∙ domain_flat sort

pub is_map : (l : AnyL) (sort : ElemSort) (values : AnyL) → l ≡ any.Map sort values → domain_of_any l ≡ map_to (sort_of sort) (domain_of_any values)
is_map l sort values e = ap domain_of_any e ∙ domain_map sort values

pub is_pair : (l left right : AnyL) → l ≡ any.Pair left right → domain_of_any l ≡ pair_of (domain_of_any left) (domain_of_any right)
is_pair l left right e = ap domain_of_any e ∙ domain_pair left right

-- a valid value, and a join, by the domain of the lattice
pub valid_at : (l : AnyL) (k : Domain) (v : Value) → domain_of_any l ≡ k → IsValueOf (domain_of_any l) v → IsValueOf k v
valid_at l k v e h = subst (λ k. IsValueOf k v) e h

pub join_at : (l : AnyL) (k : Domain) (a b : Value) → domain_of_any l ≡ k → joined_of (domain_of_any l) a b ≡ joined_of k a b
join_at l k a b e = ap (λ k. joined_of k a b) e

-- -- sets

pub may_rising : (l : AnyL) (sort : ElemSort) (v : Value) (xs : List Elem) → l ≡ any.May sort → IsValueOf (domain_of_any l) v → xs ≡ elems_in (out-Value v) → IsStrictlySortedBy elem_cmp xs
may_rising l sort v xs e h is = subst (IsStrictlySortedBy elem_cmp) (sym is) (may_opens (sort_of sort) (out-Value v) (valid_at l (may (sort_of sort)) v (is_may l sort e) h)).0

pub may_joined : (l : AnyL) (sort : ElemSort) (a b : Value) (xs ys zs : List Elem) → l ≡ any.May sort → xs ≡ elems_in (out-Value a) → ys ≡ elems_in (out-Value b) → zs ≡ union_of xs ys → value.Set zs ≡ joined_of (domain_of_any l) a b
may_joined l sort a b xs ys zs e f g h =
    ap value.Set (h ∙ ap (λ xs. union_of xs ys) f ∙ ap (union_of (elems_in (out-Value a))) g) ∙ sym (join_at l (may (sort_of sort)) a b (is_may l sort e))

rising_layer : (sort : Sort) (l : ValueLayer) → IsMust sort l → IsStrictlySortedBy elem_cmp (elems_in l)
rising_layer sort Value-F.Unreached h = rising_nothing elem_cmp elem_total
rising_layer sort (Value-F.Set xs) h = h.rising
rising_layer sort _ h = absurd h

pub must_rising : (l : AnyL) (sort : ElemSort) (v : Value) → l ≡ any.Must sort → IsValueOf (domain_of_any l) v → IsStrictlySortedBy elem_cmp (elems_in (out-Value v))
must_rising l sort v e h = rising_layer (sort_of sort) (out-Value v) (valid_at l (must (sort_of sort)) v (is_must l sort e) h)

pub must_answer : {E : Type 0} (l : AnyL) (sort : ElemSort) (a b : Value) (r : Result Value E) → l ≡ any.Must sort → IfOk r (λ v. v ≡ roll-Value (must_join (out-Value a) (out-Value b))) → IfOk r (λ v. v ≡ joined_of (domain_of_any l) a b)
must_answer l sort a b (Ok v) e h = h ∙ sym (join_at l (must (sort_of sort)) a b (is_must l sort e))
must_answer l sort a b (Err x) e h = h

pub flat_answer : {E : Type 0} (l : AnyL) (sort : ElemSort) (a b : Value) (r : Result Value E) → l ≡ any.Flat sort → IfOk r (λ v. v ≡ roll-Value (flat_join (out-Value a) (out-Value b))) → IfOk r (λ v. v ≡ joined_of (domain_of_any l) a b)
flat_answer l sort a b (Ok v) e h = h ∙ sym (join_at l (flat (sort_of sort)) a b (is_flat l sort e))
flat_answer l sort a b (Err x) e h = h

-- -- maps

pub map_entries : (l : AnyL) (sort : ElemSort) (values : AnyL) (v : Value) (es : List Entry) → l ≡ any.Map sort values → IsValueOf (domain_of_any l) v → es ≡ entries_in (out-Value v)
    → IsMap elem_cmp (IsValueOf (domain_of_any values)) (least_of (domain_of_any values)) (pairs_of es)
map_entries l sort values v es e h is =
    subst (λ es. IsMap elem_cmp (IsValueOf (domain_of_any values)) (least_of (domain_of_any values)) (pairs_of es)) (sym is)
    (map_opens (sort_of sort) (domain_of_any values) (any_laws values) (out-Value v) (valid_at l (map_to (sort_of sort) (domain_of_any values)) v (is_map l sort values e) h)).0

pub map_joined : (l : AnyL) (sort : ElemSort) (values : AnyL) (a b : Value) (xs ys zs : List Entry) → l ≡ any.Map sort values → xs ≡ entries_in (out-Value a) → ys ≡ entries_in (out-Value b)
    → zs ≡ entries_of (map_join (joined_of (domain_of_any values)) (pairs_of xs) (pairs_of ys)) → value.Map zs ≡ joined_of (domain_of_any l) a b
map_joined l sort values a b xs ys zs e f g h =
    ap value.Map (h ∙ ap (λ xs. entries_of (map_join (joined_of (domain_of_any values)) (pairs_of xs) (pairs_of ys))) f
    ∙ ap (λ ys. entries_of (map_join (joined_of (domain_of_any values)) (pairs_of (entries_in (out-Value a))) (pairs_of ys))) g)
    ∙ sym (join_at l (map_to (sort_of sort) (domain_of_any values)) a b (is_map l sort values e))

-- -- pairs

some_layer : (P Q : Value → Type 0) (l : ValueLayer) → IsPairOf P Q l → IsSomePair l
some_layer P Q (Value-F.Pair a b) h = (tt, tt)
some_layer P Q _ h = absurd h

pub some_pair : (l left right : AnyL) (v : Value) → l ≡ any.Pair left right → IsValueOf (domain_of_any l) v → IsSomePair (out-Value v)
some_pair l left right v e h = some_layer (IsValueOf (domain_of_any left)) (IsValueOf (domain_of_any right)) (out-Value v) (valid_at l (pair_of (domain_of_any left) (domain_of_any right)) v (is_pair l left right e) h)

pub left_valid : (l left right : AnyL) (v w : Value) → l ≡ any.Pair left right → IsValueOf (domain_of_any l) v → w ≡ left_in (out-Value v) → IsValueOf (domain_of_any left) w
left_valid l left right v w e h is = subst (IsValueOf (domain_of_any left)) (sym is) (pair_opens (domain_of_any left) (domain_of_any right) (any_laws left) (any_laws right) (out-Value v) (valid_at l (pair_of (domain_of_any left) (domain_of_any right)) v (is_pair l left right e) h)).0

pub right_valid : (l left right : AnyL) (v w : Value) → l ≡ any.Pair left right → IsValueOf (domain_of_any l) v → w ≡ right_in (out-Value v) → IsValueOf (domain_of_any right) w
right_valid l left right v w e h is = subst (IsValueOf (domain_of_any right)) (sym is) (pair_opens (domain_of_any left) (domain_of_any right) (any_laws left) (any_laws right) (out-Value v) (valid_at l (pair_of (domain_of_any left) (domain_of_any right)) v (is_pair l left right e) h)).1

pub pair_joined : (l left right : AnyL) (a b a1 a2 b1 b2 v w : Value) → l ≡ any.Pair left right → a1 ≡ left_in (out-Value a) → a2 ≡ right_in (out-Value a) → b1 ≡ left_in (out-Value b) → b2 ≡ right_in (out-Value b)
    → v ≡ joined_of (domain_of_any left) a1 b1 → w ≡ joined_of (domain_of_any right) a2 b2 → value.Pair v w ≡ joined_of (domain_of_any l) a b
pair_joined l left right a b a1 a2 b1 b2 v w e f1 f2 g1 g2 hv hw =
    (λ i. value.Pair ((hv ∙ (λ j. joined_of (domain_of_any left) (f1 j) (g1 j))) i) ((hw ∙ (λ j. joined_of (domain_of_any right) (f2 j) (g2 j))) i))
    ∙ sym (join_at l (pair_of (domain_of_any left) (domain_of_any right)) a b (is_pair l left right e))

-- -- elements of declared lattices

pub is_table : (l : AnyL) (n : NamedTable) → l ≡ any.Table n → domain_of_any l ≡ listed (table_of_names n)
is_table l n e = ap domain_of_any e ∙ domain_table n

item_layer : (t : Table) (l : ValueLayer) → IsListed t l → IsSomeItem l
item_layer t (Value-F.Item x) h = tt
item_layer t _ h = absurd h

listed_layer : (t : Table) (l : ValueLayer) → IsListed t l → IsTrue (has_element t (item_in l))
listed_layer t (Value-F.Item x) h = h
listed_layer t _ h = absurd h

pub some_item : (l : AnyL) (n : NamedTable) (v : Value) → l ≡ any.Table n → IsValueOf (domain_of_any l) v → IsSomeItem (out-Value v)
some_item l n v e h = item_layer (table_of_names n) (out-Value v) (valid_at l (listed (table_of_names n)) v (is_table l n e) h)

pub item_listed : (l : AnyL) (n : NamedTable) (v : Value) (x : List ℕ) → l ≡ any.Table n → IsValueOf (domain_of_any l) v → x ≡ item_in (out-Value v) → IsTrue (has_element (table_of_names n) x)
item_listed l n v x e h is =
    subst (λ x. IsTrue (has_element (table_of_names n) x)) (sym is) (listed_layer (table_of_names n) (out-Value v) (valid_at l (listed (table_of_names n)) v (is_table l n e) h))

pub table_joined : (l : AnyL) (n : NamedTable) (a b : Value) (x y z w : List ℕ) → l ≡ any.Table n → x ≡ item_in (out-Value a) → y ≡ item_in (out-Value b) → z ≡ table_join (table_of_names n) x y → w ≡ z
    → value.Item w ≡ joined_of (domain_of_any l) a b
table_joined l n a b x y z w e f g h k =
    ap value.Item (k ∙ h ∙ (λ i. table_join (table_of_names n) (f i) (g i))) ∙ sym (join_at l (listed (table_of_names n)) a b (is_table l n e))
