-- Each domain whose tables keep the laws is a lattice.
use Rattle.std.proofs.Common.{◌≡◌, ◌↔◌, Bool, true, false, cond, List, [], ◌∷◌, refl, sym, ap, ◌∙◌, subst}
use Rattle.std.specs.Prelude.{ℕ, ⊤, All, IsTrue}
use Rattle.std.specs.List.Sorted.{IsStrictlySortedBy}
use Rattle.std.specs.Map.{keys_of}
use Rattle.std.specs.Ordering.{eq_by_cmp}
use Rattle.std.specs.BTreeSet.{insert_key}
use Rattle.std.specs.BTreeMap.{insert_entry}
use Rattle.std.proofs.lemmas.List.Elements.{All-nil, All-head, All-tail, All-filter}
use Rattle.std.proofs.lemmas.Map.Views.{All-insert_key, All-keys-insert_entry}
use Rattle.flow_term.specs.declared.elem.Elem.{Elem}
use Rattle.flow_term.specs.declared.value.Value.{Value, Value-F, out-Value, roll-Value, out-roll-Value, roll-out-Value}
use Rattle.flow_term.specs.declared.value.Value.TheVariants as value
use Rattle.flow_term.specs.declared.value.Entry.{Entry}
use Rattle.flow_term.specs.Elements.{elem_cmp}
use Rattle.flow_syntax.specs.Types.{Sort}
use Rattle.value_domains.specs.Lawful.{IsLawfulTable, IsLawful}
use Rattle.value_domains.specs.Domains.{Domain, may, must, flat, map_to, pair_of, listed, Table, has_element, table_join, item_in, IsListed, least_of, IsValueOf, joined_of, IsBelowIn}
use Rattle.lattice_base.specs.Laws.{JoinLaws, OrderLaw}
use Rattle.lattice_sets.specs.declared.must.MustV.{MustV}
use Rattle.lattice_sets.specs.declared.must.MustV.TheVariants as must_value
use Rattle.lattice_sets.specs.declared.flat.FlatV.{FlatV}
use Rattle.lattice_sets.specs.declared.flat.FlatV.TheVariants as flat_value
use Rattle.lattice_sets.specs.declared.pair.PairV.{PairV}
use Rattle.lattice_sets.specs.Must as must_sets
use Rattle.lattice_sets.specs.Flat as flats
use Rattle.lattice_sets.specs.Maps as maps
use Rattle.lattice_sets.specs.Pairs.{IsPair, IsBelowPair, pair, pair_join}
use Rattle.lattice_sets.specs.MayLaws.{may_laws, may_order}
use Rattle.lattice_sets.specs.MustLaws.{must_laws, must_order}
use Rattle.lattice_sets.specs.FlatLaws.{flat_laws, flat_order}
use Rattle.lattice_sets.specs.MapLaws.{map_laws, map_order}
use Rattle.lattice_sets.specs.PairLaws.{pair_laws, pair_order}
use Rattle.value_domains.specs.inner.Carried.{carried_laws, carried_order, part_laws, part_order}
use Rattle.value_domains.specs.inner.Elements.{elem_total, elem_exact}
use Rattle.value_domains.specs.Values.{IsOfSort, IsMapOf, union_of, Includes, value_at, joined_to, map_join, ValueLayer, pairs_of, entries_of, elems_in, map_in, left_in, right_in, IsMay, IsMust, IsFlat, IsMapTo, IsPairOf, must_join, flat_join, IsBelowMust, IsBelowFlat}

-- MAY SETS

pub all_union : (P : Elem → Type 0) (a b : List Elem) → All P a → All P b → All P (union_of a b)
all_union P a [] ha hb = ha
all_union P a (x ∷ xs) ha hb = all_union P (insert_key elem_cmp a x) xs (All-insert_key elem_cmp x P a ha (All-head P x xs hb)) (All-tail P x xs hb)

abbrev IsSet : Sort → List Elem → Type 0
IsSet sort xs = IsStrictlySortedBy elem_cmp xs × All (IsOfSort sort) xs

set_laws : (sort : Sort) → JoinLaws (IsSet sort) [] union_of
set_laws sort =
    part_laws (IsStrictlySortedBy elem_cmp) [] union_of (may_laws elem_cmp elem_total elem_exact)
    (All (IsOfSort sort)) (All-nil (IsOfSort sort)) (λ a b _ _ qa qb. all_union (IsOfSort sort) a b qa qb)

set_order : (sort : Sort) → OrderLaw (IsSet sort) union_of (λ a b. Includes b a)
set_order sort =
    part_order (IsStrictlySortedBy elem_cmp) [] union_of (may_laws elem_cmp elem_total elem_exact)
    (All (IsOfSort sort)) (All-nil (IsOfSort sort)) (λ a b _ _ qa qb. all_union (IsOfSort sort) a b qa qb)
    (λ a b. Includes b a) (may_order elem_cmp elem_total elem_exact)

abbrev elems_of : Value → List Elem
elems_of v = elems_in (out-Value v)

set_opened : (xs : List Elem) → elems_of (value.Set xs) ≡ xs
set_opened xs = ap elems_in (value.outs-Set xs)

pub may_whole : (sort : Sort) (l : ValueLayer) → IsMay sort l → value.Set (elems_in l) ≡ roll-Value l
may_whole sort (Value-F.Set xs) h = sym (value.rolls-Set xs)
may_whole sort _ h = absurd h

pub may_opens : (sort : Sort) (l : ValueLayer) → IsMay sort l → IsSet sort (elems_in l)
may_opens sort (Value-F.Set xs) h = (h.rising, h.sorts)
may_opens sort _ h = absurd h

may_wraps : (sort : Sort) (xs : List Elem) → IsSet sort xs → IsValueOf (may sort) (value.Set xs)
may_wraps sort xs h = subst (IsMay sort) (sym (value.outs-Set xs)) (record { rising = h.0; sorts = h.1 })

laws_may : (sort : Sort) → JoinLaws (IsValueOf (may sort)) (least_of (may sort)) (joined_of (may sort))
laws_may sort =
    carried_laws (IsSet sort) [] union_of (set_laws sort) (IsValueOf (may sort)) (value.Set []) (joined_of (may sort))
    (λ xs. value.Set xs) elems_of set_opened (λ v h. may_whole sort (out-Value v) h ∙ roll-out-Value v)
    (λ v h. may_opens sort (out-Value v) h) (may_wraps sort) refl (λ v w a b. refl)

order_may : (sort : Sort) → OrderLaw (IsValueOf (may sort)) (joined_of (may sort)) (IsBelowIn (may sort))
order_may sort =
    carried_order (IsSet sort) [] union_of (set_laws sort) (IsValueOf (may sort)) (value.Set []) (joined_of (may sort))
    (λ xs. value.Set xs) elems_of set_opened (λ v h. may_whole sort (out-Value v) h ∙ roll-out-Value v)
    (λ v h. may_opens sort (out-Value v) h) (may_wraps sort) refl (λ v w a b. refl)
    (λ a b. Includes b a) (set_order sort) (IsBelowIn (may sort)) (λ v w a b. (λ h. h, λ h. h))

-- MUST SETS

abbrev must_in : ValueLayer → MustV Elem
must_in (Value-F.Set xs) = must_value.Set xs
must_in _ = must_value.Unreached

abbrev must_layer : MustV Elem → ValueLayer
must_layer must_value.Unreached = Value-F.Unreached
must_layer (must_value.Set xs) = Value-F.Set xs

abbrev HasMustSort : Sort → MustV Elem → Type 0
HasMustSort sort must_value.Unreached = ⊤
HasMustSort sort (must_value.Set xs) = All (IsOfSort sort) xs

abbrev IsMustSet : Sort → MustV Elem → Type 0
IsMustSet sort m = must_sets.IsMust elem_cmp m × HasMustSort sort m

must_sorts : (sort : Sort) (a b : MustV Elem) → HasMustSort sort a → HasMustSort sort b → HasMustSort sort (must_sets.must_join elem_cmp a b)
must_sorts sort must_value.Unreached b ha hb = hb
must_sorts sort (must_value.Set xs) must_value.Unreached ha hb = ha
must_sorts sort (must_value.Set xs) (must_value.Set ys) ha hb = All-filter _ (IsOfSort sort) xs ha

must_set_laws : (sort : Sort) → JoinLaws (IsMustSet sort) must_value.Unreached (must_sets.must_join elem_cmp)
must_set_laws sort =
    part_laws (must_sets.IsMust elem_cmp) must_value.Unreached (must_sets.must_join elem_cmp) (must_laws elem_cmp elem_total elem_exact)
    (HasMustSort sort) tt (λ a b _ _ qa qb. must_sorts sort a b qa qb)

must_set_order : (sort : Sort) → OrderLaw (IsMustSet sort) (must_sets.must_join elem_cmp) must_sets.IsBelowMust
must_set_order sort =
    part_order (must_sets.IsMust elem_cmp) must_value.Unreached (must_sets.must_join elem_cmp) (must_laws elem_cmp elem_total elem_exact)
    (HasMustSort sort) tt (λ a b _ _ qa qb. must_sorts sort a b qa qb)
    must_sets.IsBelowMust (must_order elem_cmp elem_total elem_exact)

must_seen : (m : MustV Elem) → must_in (must_layer m) ≡ m
must_seen must_value.Unreached = refl
must_seen (must_value.Set xs) = refl

pub must_whole : (sort : Sort) (l : ValueLayer) → IsMust sort l → must_layer (must_in l) ≡ l
must_whole sort Value-F.Unreached h = refl
must_whole sort (Value-F.Set xs) h = refl
must_whole sort _ h = absurd h

pub must_opens : (sort : Sort) (l : ValueLayer) → IsMust sort l → IsMustSet sort (must_in l)
must_opens sort Value-F.Unreached h = (tt, tt)
must_opens sort (Value-F.Set xs) h = (h.rising, h.sorts)
must_opens sort _ h = absurd h

must_shown : (sort : Sort) (m : MustV Elem) → IsMustSet sort m → IsMust sort (must_layer m)
must_shown sort must_value.Unreached h = tt
must_shown sort (must_value.Set xs) h = record { rising = h.0; sorts = h.1 }

must_join_is : (sort : Sort) (x y : ValueLayer) → IsMust sort x → IsMust sort y → must_join x y ≡ must_layer (must_sets.must_join elem_cmp (must_in x) (must_in y))
must_join_is sort Value-F.Unreached y hx hy = sym (must_whole sort y hy)
must_join_is sort (Value-F.Set xs) Value-F.Unreached hx hy = refl
must_join_is sort (Value-F.Set xs) (Value-F.Set ys) hx hy = refl
must_join_is sort (Value-F.Set xs) _ hx hy = absurd hy
must_join_is sort _ _ hx hy = absurd hx

must_below_is : (sort : Sort) (x y : ValueLayer) → IsMust sort x → IsMust sort y → IsBelowMust x y ↔ must_sets.IsBelowMust (must_in x) (must_in y)
must_below_is sort Value-F.Unreached y hx hy = (λ h. tt, λ h. tt)
must_below_is sort (Value-F.Set xs) Value-F.Unreached hx hy = (λ h. h, λ h. h)
must_below_is sort (Value-F.Set xs) (Value-F.Set ys) hx hy = (λ h. h, λ h. h)
must_below_is sort (Value-F.Set xs) _ hx hy = absurd hy
must_below_is sort _ _ hx hy = absurd hx

abbrev must_wrap : MustV Elem → Value
must_wrap m = roll-Value (must_layer m)

abbrev must_of : Value → MustV Elem
must_of v = must_in (out-Value v)

must_opened : (m : MustV Elem) → must_of (must_wrap m) ≡ m
must_opened m = ap must_in (out-roll-Value (must_layer m)) ∙ must_seen m

must_wrapped : (sort : Sort) (v : Value) → IsValueOf (must sort) v → must_wrap (must_of v) ≡ v
must_wrapped sort v h = ap roll-Value (must_whole sort (out-Value v) h) ∙ roll-out-Value v

must_wraps : (sort : Sort) (m : MustV Elem) → IsMustSet sort m → IsValueOf (must sort) (must_wrap m)
must_wraps sort m h = subst (IsMust sort) (sym (out-roll-Value (must_layer m))) (must_shown sort m h)

must_joined : (sort : Sort) (v w : Value) → IsValueOf (must sort) v → IsValueOf (must sort) w → joined_of (must sort) v w ≡ must_wrap (must_sets.must_join elem_cmp (must_of v) (must_of w))
must_joined sort v w a b = ap roll-Value (must_join_is sort (out-Value v) (out-Value w) a b)

laws_must : (sort : Sort) → JoinLaws (IsValueOf (must sort)) (least_of (must sort)) (joined_of (must sort))
laws_must sort =
    carried_laws (IsMustSet sort) must_value.Unreached (must_sets.must_join elem_cmp) (must_set_laws sort) (IsValueOf (must sort)) value.Unreached (joined_of (must sort))
    must_wrap must_of must_opened (must_wrapped sort) (λ v h. must_opens sort (out-Value v) h) (must_wraps sort) (sym value.rolls-Unreached) (must_joined sort)

order_must : (sort : Sort) → OrderLaw (IsValueOf (must sort)) (joined_of (must sort)) (IsBelowIn (must sort))
order_must sort =
    carried_order (IsMustSet sort) must_value.Unreached (must_sets.must_join elem_cmp) (must_set_laws sort) (IsValueOf (must sort)) value.Unreached (joined_of (must sort))
    must_wrap must_of must_opened (must_wrapped sort) (λ v h. must_opens sort (out-Value v) h) (must_wraps sort) (sym value.rolls-Unreached) (must_joined sort)
    must_sets.IsBelowMust (must_set_order sort) (IsBelowIn (must sort)) (λ v w a b. must_below_is sort (out-Value v) (out-Value w) a b)

-- FLAT VALUES

abbrev flat_in : ValueLayer → FlatV Elem
flat_in Value-F.Bottom = flat_value.Bottom
flat_in (Value-F.Flat x) = flat_value.Flat x
flat_in _ = flat_value.Top

abbrev flat_layer : FlatV Elem → ValueLayer
flat_layer flat_value.Bottom = Value-F.Bottom
flat_layer (flat_value.Flat x) = Value-F.Flat x
flat_layer flat_value.Top = Value-F.Top

abbrev HasFlatSort : Sort → FlatV Elem → Type 0
HasFlatSort sort (flat_value.Flat x) = IsOfSort sort x
HasFlatSort sort _ = ⊤

abbrev IsFlatValue : Sort → FlatV Elem → Type 0
IsFlatValue sort a = ⊤ × HasFlatSort sort a

abbrev elem_join : FlatV Elem → FlatV Elem → FlatV Elem
elem_join = flats.flat_join (eq_by_cmp elem_cmp)

flat_one : (sort : Sort) (b : Bool) (x : Elem) → IsOfSort sort x → HasFlatSort sort (cond b (flat_value.Flat x) flat_value.Top)
flat_one sort true x h = h
flat_one sort false x h = tt

flat_sorts : (sort : Sort) (a b : FlatV Elem) → HasFlatSort sort a → HasFlatSort sort b → HasFlatSort sort (elem_join a b)
flat_sorts sort flat_value.Bottom b ha hb = hb
flat_sorts sort (flat_value.Flat x) flat_value.Bottom ha hb = ha
flat_sorts sort (flat_value.Flat x) (flat_value.Flat y) ha hb = flat_one sort (eq_by_cmp elem_cmp x y) x ha
flat_sorts sort (flat_value.Flat x) flat_value.Top ha hb = tt
flat_sorts sort flat_value.Top b ha hb = tt

flat_value_laws : (sort : Sort) → JoinLaws (IsFlatValue sort) flat_value.Bottom elem_join
flat_value_laws sort =
    part_laws (λ _. ⊤) flat_value.Bottom elem_join (flat_laws elem_cmp elem_total elem_exact)
    (HasFlatSort sort) tt (λ a b _ _ qa qb. flat_sorts sort a b qa qb)

flat_value_order : (sort : Sort) → OrderLaw (IsFlatValue sort) elem_join flats.IsBelowFlat
flat_value_order sort =
    part_order (λ _. ⊤) flat_value.Bottom elem_join (flat_laws elem_cmp elem_total elem_exact)
    (HasFlatSort sort) tt (λ a b _ _ qa qb. flat_sorts sort a b qa qb)
    flats.IsBelowFlat (flat_order elem_cmp elem_total elem_exact)

flat_seen : (a : FlatV Elem) → flat_in (flat_layer a) ≡ a
flat_seen flat_value.Bottom = refl
flat_seen (flat_value.Flat x) = refl
flat_seen flat_value.Top = refl

pub flat_whole : (sort : Sort) (l : ValueLayer) → IsFlat sort l → flat_layer (flat_in l) ≡ l
flat_whole sort Value-F.Bottom h = refl
flat_whole sort (Value-F.Flat x) h = refl
flat_whole sort Value-F.Top h = refl
flat_whole sort _ h = absurd h

flat_opens : (sort : Sort) (l : ValueLayer) → IsFlat sort l → IsFlatValue sort (flat_in l)
flat_opens sort Value-F.Bottom h = (tt, tt)
flat_opens sort (Value-F.Flat x) h = (tt, h)
flat_opens sort Value-F.Top h = (tt, tt)
flat_opens sort _ h = absurd h

flat_shown : (sort : Sort) (a : FlatV Elem) → IsFlatValue sort a → IsFlat sort (flat_layer a)
flat_shown sort flat_value.Bottom h = tt
flat_shown sort (flat_value.Flat x) h = h.1
flat_shown sort flat_value.Top h = tt

flat_cond : (b : Bool) (x : Elem) → cond {A = ValueLayer} b (Value-F.Flat x) Value-F.Top ≡ flat_layer (cond b (flat_value.Flat x) flat_value.Top)
flat_cond true x = refl
flat_cond false x = refl

flat_join_is : (sort : Sort) (x y : ValueLayer) → IsFlat sort x → IsFlat sort y → flat_join x y ≡ flat_layer (elem_join (flat_in x) (flat_in y))
flat_join_is sort Value-F.Bottom y hx hy = sym (flat_whole sort y hy)
flat_join_is sort (Value-F.Flat x) Value-F.Bottom hx hy = refl
flat_join_is sort (Value-F.Flat x) (Value-F.Flat y) hx hy = flat_cond (eq_by_cmp elem_cmp x y) x
flat_join_is sort (Value-F.Flat x) Value-F.Top hx hy = refl
flat_join_is sort (Value-F.Flat x) _ hx hy = absurd hy
flat_join_is sort Value-F.Top Value-F.Bottom hx hy = refl
flat_join_is sort Value-F.Top (Value-F.Flat y) hx hy = refl
flat_join_is sort Value-F.Top Value-F.Top hx hy = refl
flat_join_is sort Value-F.Top _ hx hy = absurd hy
flat_join_is sort _ _ hx hy = absurd hx

flat_below_is : (sort : Sort) (x y : ValueLayer) → IsFlat sort x → IsFlat sort y → IsBelowFlat x y ↔ flats.IsBelowFlat (flat_in x) (flat_in y)
flat_below_is sort Value-F.Bottom y hx hy = (λ h. tt, λ h. tt)
flat_below_is sort (Value-F.Flat x) Value-F.Bottom hx hy = (λ h. h, λ h. h)
flat_below_is sort (Value-F.Flat x) (Value-F.Flat y) hx hy = (λ h. h, λ h. h)
flat_below_is sort (Value-F.Flat x) Value-F.Top hx hy = (λ h. h, λ h. h)
flat_below_is sort (Value-F.Flat x) _ hx hy = absurd hy
flat_below_is sort Value-F.Top Value-F.Bottom hx hy = (λ h. h, λ h. h)
flat_below_is sort Value-F.Top (Value-F.Flat y) hx hy = (λ h. h, λ h. h)
flat_below_is sort Value-F.Top Value-F.Top hx hy = (λ h. h, λ h. h)
flat_below_is sort Value-F.Top _ hx hy = absurd hy
flat_below_is sort _ _ hx hy = absurd hx

abbrev flat_wrap : FlatV Elem → Value
flat_wrap a = roll-Value (flat_layer a)

abbrev flat_of : Value → FlatV Elem
flat_of v = flat_in (out-Value v)

flat_opened : (a : FlatV Elem) → flat_of (flat_wrap a) ≡ a
flat_opened a = ap flat_in (out-roll-Value (flat_layer a)) ∙ flat_seen a

flat_wrapped : (sort : Sort) (v : Value) → IsValueOf (flat sort) v → flat_wrap (flat_of v) ≡ v
flat_wrapped sort v h = ap roll-Value (flat_whole sort (out-Value v) h) ∙ roll-out-Value v

flat_wraps : (sort : Sort) (a : FlatV Elem) → IsFlatValue sort a → IsValueOf (flat sort) (flat_wrap a)
flat_wraps sort a h = subst (IsFlat sort) (sym (out-roll-Value (flat_layer a))) (flat_shown sort a h)

flat_joined : (sort : Sort) (v w : Value) → IsValueOf (flat sort) v → IsValueOf (flat sort) w → joined_of (flat sort) v w ≡ flat_wrap (elem_join (flat_of v) (flat_of w))
flat_joined sort v w a b = ap roll-Value (flat_join_is sort (out-Value v) (out-Value w) a b)

laws_flat : (sort : Sort) → JoinLaws (IsValueOf (flat sort)) (least_of (flat sort)) (joined_of (flat sort))
laws_flat sort =
    carried_laws (IsFlatValue sort) flat_value.Bottom elem_join (flat_value_laws sort) (IsValueOf (flat sort)) value.Bottom (joined_of (flat sort))
    flat_wrap flat_of flat_opened (flat_wrapped sort) (λ v h. flat_opens sort (out-Value v) h) (flat_wraps sort) (sym value.rolls-Bottom) (flat_joined sort)

order_flat : (sort : Sort) → OrderLaw (IsValueOf (flat sort)) (joined_of (flat sort)) (IsBelowIn (flat sort))
order_flat sort =
    carried_order (IsFlatValue sort) flat_value.Bottom elem_join (flat_value_laws sort) (IsValueOf (flat sort)) value.Bottom (joined_of (flat sort))
    flat_wrap flat_of flat_opened (flat_wrapped sort) (λ v h. flat_opens sort (out-Value v) h) (flat_wraps sort) (sym value.rolls-Bottom) (flat_joined sort)
    flats.IsBelowFlat (flat_value_order sort) (IsBelowIn (flat sort)) (λ v w a b. flat_below_is sort (out-Value v) (out-Value w) a b)

-- MAPS

pub all_keys : (P : Elem → Type 0) (join : Value → Value → Value) (a b : List (Elem × Value)) → All P (keys_of a) → All P (keys_of b) → All P (keys_of (map_join join a b))
all_keys P join a [] ha hb = ha
all_keys P join a (e ∷ es) ha hb =
    let w = joined_to join (value_at a e.0) e.1 in
    all_keys P join (insert_entry elem_cmp a e.0 w) es (All-keys-insert_entry elem_cmp e.0 w P a ha (All-head P e.0 (keys_of es) hb)) (All-tail P e.0 (keys_of es) hb)

pub entries_back : (entries : List Entry) → entries_of (pairs_of entries) ≡ entries
entries_back [] = refl
entries_back (e ∷ es) = ap (λ l. e ∷ l) (entries_back es)

pub pairs_back : (m : List (Elem × Value)) → pairs_of (entries_of m) ≡ m
pairs_back [] = refl
pairs_back (e ∷ es) = ap (λ l. e ∷ l) (pairs_back es)

abbrev map_of : Value → List (Elem × Value)
map_of v = map_in (out-Value v)

abbrev map_wrap : List (Elem × Value) → Value
map_wrap m = value.Map (entries_of m)

pub map_opened : (m : List (Elem × Value)) → map_of (map_wrap m) ≡ m
map_opened m = ap map_in (value.outs-Map (entries_of m)) ∙ pairs_back m

module _ (sort : Sort) (inner : Domain) (laws : JoinLaws (IsValueOf inner) (least_of inner) (joined_of inner)) where
  abbrev IsMapValue : List (Elem × Value) → Type 0
  IsMapValue m = maps.IsMap elem_cmp (IsValueOf inner) (least_of inner) m × All (IsOfSort sort) (keys_of m)

  map_value_laws : JoinLaws IsMapValue [] (map_join (joined_of inner))
  map_value_laws =
      part_laws (maps.IsMap elem_cmp (IsValueOf inner) (least_of inner)) [] (map_join (joined_of inner))
      (map_laws elem_cmp elem_total elem_exact (IsValueOf inner) (least_of inner) (joined_of inner) laws)
      (λ m. All (IsOfSort sort) (keys_of m)) (All-nil (IsOfSort sort)) (λ a b _ _ qa qb. all_keys (IsOfSort sort) (joined_of inner) a b qa qb)

  pub map_whole : (l : ValueLayer) → IsMapTo sort (IsValueOf inner) (least_of inner) l → map_wrap (map_in l) ≡ roll-Value l
  map_whole (Value-F.Map entries) h = ap value.Map (entries_back entries) ∙ sym (value.rolls-Map entries)
  map_whole _ h = absurd h

  pub map_opens : (l : ValueLayer) → IsMapTo sort (IsValueOf inner) (least_of inner) l → IsMapValue (map_in l)
  map_opens (Value-F.Map entries) h = (record { rising = h.rising; kept = h.kept }, h.sorts)
  map_opens _ h = absurd h

  map_wraps : (m : List (Elem × Value)) → IsMapValue m → IsValueOf (map_to sort inner) (map_wrap m)
  map_wraps m h =
      subst (IsMapTo sort (IsValueOf inner) (least_of inner)) (sym (value.outs-Map (entries_of m)))
      (subst (IsMapOf sort (IsValueOf inner) (least_of inner)) (sym (pairs_back m)) (record { rising = h.0.rising; sorts = h.1; kept = h.0.kept }))

  laws_map : JoinLaws (IsValueOf (map_to sort inner)) (least_of (map_to sort inner)) (joined_of (map_to sort inner))
  laws_map =
      carried_laws IsMapValue [] (map_join (joined_of inner)) map_value_laws (IsValueOf (map_to sort inner)) (value.Map []) (joined_of (map_to sort inner))
      map_wrap map_of map_opened (λ v h. map_whole (out-Value v) h ∙ roll-out-Value v) (λ v h. map_opens (out-Value v) h) map_wraps refl (λ v w a b. refl)

  order_map : OrderLaw (IsValueOf inner) (joined_of inner) (IsBelowIn inner) → OrderLaw (IsValueOf (map_to sort inner)) (joined_of (map_to sort inner)) (IsBelowIn (map_to sort inner))
  order_map order =
      carried_order IsMapValue [] (map_join (joined_of inner)) map_value_laws (IsValueOf (map_to sort inner)) (value.Map []) (joined_of (map_to sort inner))
      map_wrap map_of map_opened (λ v h. map_whole (out-Value v) h ∙ roll-out-Value v) (λ v h. map_opens (out-Value v) h) map_wraps refl (λ v w a b. refl)
      (maps.IsBelowMap elem_cmp (least_of inner) (IsBelowIn inner))
      (part_order (maps.IsMap elem_cmp (IsValueOf inner) (least_of inner)) [] (map_join (joined_of inner))
      (map_laws elem_cmp elem_total elem_exact (IsValueOf inner) (least_of inner) (joined_of inner) laws)
      (λ m. All (IsOfSort sort) (keys_of m)) (All-nil (IsOfSort sort)) (λ a b _ _ qa qb. all_keys (IsOfSort sort) (joined_of inner) a b qa qb)
      (maps.IsBelowMap elem_cmp (least_of inner) (IsBelowIn inner)) (map_order elem_cmp elem_total elem_exact (IsValueOf inner) (least_of inner) (joined_of inner) laws (IsBelowIn inner) order))
      (IsBelowIn (map_to sort inner)) (λ v w a b. (λ h. h, λ h. h))

-- PAIRS

abbrev pair_of_value : Value → PairV Value Value
pair_of_value v = pair (left_in (out-Value v)) (right_in (out-Value v))

abbrev pair_wrap : PairV Value Value → Value
pair_wrap p = value.Pair p.left p.right

pair_opened : (p : PairV Value Value) → pair_of_value (pair_wrap p) ≡ p
pair_opened p = ap (λ l. pair (left_in l) (right_in l)) (value.outs-Pair p.left p.right)

module _ (left right : Domain) (laws_left : JoinLaws (IsValueOf left) (least_of left) (joined_of left)) (laws_right : JoinLaws (IsValueOf right) (least_of right) (joined_of right)) where
  abbrev IsPairValue : PairV Value Value → Type 0
  IsPairValue = IsPair (IsValueOf left) (IsValueOf right)

  pair_value_laws : JoinLaws IsPairValue (pair (least_of left) (least_of right)) (pair_join (joined_of left) (joined_of right))
  pair_value_laws = pair_laws (IsValueOf left) (least_of left) (joined_of left) laws_left (IsValueOf right) (least_of right) (joined_of right) laws_right

  pub pair_whole : (l : ValueLayer) → IsPairOf (IsValueOf left) (IsValueOf right) l → value.Pair (left_in l) (right_in l) ≡ roll-Value l
  pair_whole (Value-F.Pair a b) h = sym (value.rolls-Pair a b)
  pair_whole _ h = absurd h

  pub pair_opens : (l : ValueLayer) → IsPairOf (IsValueOf left) (IsValueOf right) l → IsPairValue (pair (left_in l) (right_in l))
  pair_opens (Value-F.Pair a b) h = h
  pair_opens _ h = absurd h

  pair_wraps : (p : PairV Value Value) → IsPairValue p → IsValueOf (pair_of left right) (pair_wrap p)
  pair_wraps p h = subst (IsPairOf (IsValueOf left) (IsValueOf right)) (sym (value.outs-Pair p.left p.right)) h

  laws_pair : JoinLaws (IsValueOf (pair_of left right)) (least_of (pair_of left right)) (joined_of (pair_of left right))
  laws_pair =
      carried_laws IsPairValue (pair (least_of left) (least_of right)) (pair_join (joined_of left) (joined_of right)) pair_value_laws
      (IsValueOf (pair_of left right)) (least_of (pair_of left right)) (joined_of (pair_of left right))
      pair_wrap pair_of_value pair_opened (λ v h. pair_whole (out-Value v) h ∙ roll-out-Value v) (λ v h. pair_opens (out-Value v) h) pair_wraps refl (λ v w a b. refl)

  order_pair : OrderLaw (IsValueOf left) (joined_of left) (IsBelowIn left) → OrderLaw (IsValueOf right) (joined_of right) (IsBelowIn right)
      → OrderLaw (IsValueOf (pair_of left right)) (joined_of (pair_of left right)) (IsBelowIn (pair_of left right))
  order_pair order_left order_right =
      carried_order IsPairValue (pair (least_of left) (least_of right)) (pair_join (joined_of left) (joined_of right)) pair_value_laws
      (IsValueOf (pair_of left right)) (least_of (pair_of left right)) (joined_of (pair_of left right))
      pair_wrap pair_of_value pair_opened (λ v h. pair_whole (out-Value v) h ∙ roll-out-Value v) (λ v h. pair_opens (out-Value v) h) pair_wraps refl (λ v w a b. refl)
      (IsBelowPair (IsBelowIn left) (IsBelowIn right))
      (pair_order (IsValueOf left) (least_of left) (joined_of left) laws_left (IsValueOf right) (least_of right) (joined_of right) laws_right (IsBelowIn left) order_left (IsBelowIn right) order_right)
      (IsBelowIn (pair_of left right)) (λ v w a b. (λ h. h, λ h. h))

-- DECLARED LATTICES

-- a name that is an element of the table
abbrev IsElementOf : Table → List ℕ → Type 0
IsElementOf t x = IsTrue (has_element t x)

item_opened : (x : List ℕ) → item_in (out-Value (value.Item x)) ≡ x
item_opened x = ap item_in (value.outs-Item x)

listed_whole : (t : Table) (l : ValueLayer) → IsListed t l → value.Item (item_in l) ≡ roll-Value l
listed_whole t (Value-F.Item x) h = sym (value.rolls-Item x)
listed_whole t _ h = absurd h

listed_opens : (t : Table) (l : ValueLayer) → IsListed t l → IsElementOf t (item_in l)
listed_opens t (Value-F.Item x) h = h
listed_opens t _ h = absurd h

listed_wraps : (t : Table) (x : List ℕ) → IsElementOf t x → IsValueOf (listed t) (value.Item x)
listed_wraps t x h = subst (IsListed t) (sym (value.outs-Item x)) h

laws_listed : (t : Table) → IsLawfulTable t → JoinLaws (IsValueOf (listed t)) (least_of (listed t)) (joined_of (listed t))
laws_listed t laws =
    carried_laws (IsElementOf t) t.bottom (table_join t) laws (IsValueOf (listed t)) (value.Item t.bottom) (joined_of (listed t))
    (λ x. value.Item x) (λ v. item_in (out-Value v)) item_opened (λ v h. listed_whole t (out-Value v) h ∙ roll-out-Value v)
    (λ v h. listed_opens t (out-Value v) h) (listed_wraps t) refl (λ v w a b. refl)

order_listed : (t : Table) → IsLawfulTable t → OrderLaw (IsValueOf (listed t)) (joined_of (listed t)) (IsBelowIn (listed t))
order_listed t laws =
    carried_order (IsElementOf t) t.bottom (table_join t) laws (IsValueOf (listed t)) (value.Item t.bottom) (joined_of (listed t))
    (λ x. value.Item x) (λ v. item_in (out-Value v)) item_opened (λ v h. listed_whole t (out-Value v) h ∙ roll-out-Value v)
    (λ v h. listed_opens t (out-Value v) h) (listed_wraps t) refl (λ v w a b. refl)
    (λ a b. table_join t a b ≡ b) (λ a b _ _. (λ h. h, λ h. h)) (IsBelowIn (listed t)) (λ v w a b. (λ h. h, λ h. h))

-- ALL OF THEM

pub domain_laws : (inner : Domain) → IsLawful inner → JoinLaws (IsValueOf inner) (least_of inner) (joined_of inner)
domain_laws (may sort) h = laws_may sort
domain_laws (must sort) h = laws_must sort
domain_laws (flat sort) h = laws_flat sort
domain_laws (map_to sort values) h = laws_map sort values (domain_laws values h)
domain_laws (pair_of left right) h = laws_pair left right (domain_laws left h.0) (domain_laws right h.1)
domain_laws (listed t) h = laws_listed t h

pub domain_order : (inner : Domain) → IsLawful inner → OrderLaw (IsValueOf inner) (joined_of inner) (IsBelowIn inner)
domain_order (may sort) h = order_may sort
domain_order (must sort) h = order_must sort
domain_order (flat sort) h = order_flat sort
domain_order (map_to sort values) h = order_map sort values (domain_laws values h) (domain_order values h)
domain_order (pair_of left right) h = order_pair left right (domain_laws left h.0) (domain_laws right h.1) (domain_order left h.0) (domain_order right h.1)
domain_order (listed t) h = order_listed t h
