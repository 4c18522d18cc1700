-- A pass over two maps, entry by entry.
use Rattle.std.proofs.Common.{◌≡◌, ◌↔◌, List, [], ◌∷◌, ◌++◌, length, sym, ap, ◌∙◌}
use Rattle.std.specs.declared.cmp.Ordering.{Ordering}
use Rattle.std.specs.declared.cmp.Ordering.TheVariants.{Less, Equal, Greater}
use Rattle.std.proofs.lemmas.List.{length-map}
use Rattle.flow_term.specs.declared.elem.Elem.{Elem}
use Rattle.flow_term.specs.declared.value.Value.{Value}
use Rattle.flow_term.specs.declared.value.Entry.{Entry}
use Rattle.flow_term.specs.contracts.elem.ElemOrd.TheImpl as order
use Rattle.flow_term.specs.Elements.{elem_cmp}
use Rattle.flow_term.specs.ElementsLaws.{elements_ordered}
use Rattle.lattice_sets.specs.Maps.{IsMap}
use Rattle.lattice_sets.specs.SetLaws.{flip_greater}
use Rattle.lattice_sets.proofs.MapMerges.{join_less, join_equal, join_greater, join_left_ended, join_right_ended, first_kept, rest_map, not_below_ended, not_below_less, not_below_equal, below_equal, below_greater, below_ended}
use Rattle.lattice_sets.proofs.Merges.{moved, finished}
use Rattle.value_domains.specs.inner.Elements.{elem_total, elem_exact}
use Rattle.value_domains.specs.inner.DomainLaws.{entries_back}
use Rattle.value_domains.specs.Values.{map_join, pairs_of, entries_of}

pub compared : (x y : Elem) (r : Ordering) → r ≡ order.ghosts.cmp x y → elem_cmp x y ≡ r
compared x y r e = sym (e ∙ elements_ordered x y)

module _ (IsInner : Value → Type 0) (least : Value) where
  abbrev pub IsPassed : List Entry → Type 0
  IsPassed es = IsMap elem_cmp IsInner least (pairs_of es)

  pub rest_passed : (x : Entry) (xs left : List Entry) → left ≡ x ∷ xs → IsPassed left → IsPassed xs
  rest_passed x xs left e h = rest_map IsInner least elem_cmp elem_total (x.key, x.value) (pairs_of xs) (pairs_of left) (ap pairs_of e) h

module _ (join : Value → Value → Value) (IsInner : Value → Type 0) (least : Value) where
  abbrev joined : List Entry → List Entry → List (Elem × Value)
  joined a b = map_join join (pairs_of a) (pairs_of b)

  pub less_step : (x y : Entry) (xs ys left right done more : List Entry) (whole : List (Elem × Value)) → left ≡ x ∷ xs → right ≡ y ∷ ys → IsPassed IsInner least right → Less ≡ order.ghosts.cmp x.key y.key
      → pairs_of more ≡ pairs_of done ++ (x.key, x.value) ∷ [] → pairs_of done ++ joined left right ≡ whole → pairs_of more ++ joined xs right ≡ whole
  less_step x y xs ys left right done more whole e f hr less grown was =
      moved (x.key, x.value) (pairs_of done) (pairs_of more) (joined left right) (joined xs right) whole grown
      (join_less elem_cmp elem_total elem_exact join (x.key, x.value) (y.key, y.value) (pairs_of xs) (pairs_of ys) (pairs_of left) (pairs_of right) (ap pairs_of e) (ap pairs_of f) hr.rising (compared x.key y.key Less less)) was

  pub equal_step : (x y : Entry) (xs ys left right done more : List Entry) (whole : List (Elem × Value)) → left ≡ x ∷ xs → right ≡ y ∷ ys → IsPassed IsInner least right → Equal ≡ order.ghosts.cmp x.key y.key
      → pairs_of more ≡ pairs_of done ++ (x.key, join x.value y.value) ∷ [] → pairs_of done ++ joined left right ≡ whole → pairs_of more ++ joined xs ys ≡ whole
  equal_step x y xs ys left right done more whole e f hr same grown was =
      moved (x.key, join x.value y.value) (pairs_of done) (pairs_of more) (joined left right) (joined xs ys) whole grown
      (join_equal elem_cmp elem_total elem_exact join (x.key, x.value) (y.key, y.value) (pairs_of xs) (pairs_of ys) (pairs_of left) (pairs_of right) (ap pairs_of e) (ap pairs_of f) hr.rising (elem_exact x.key y.key (compared x.key y.key Equal same))) was

  pub greater_step : (x y : Entry) (xs ys left right done more : List Entry) (whole : List (Elem × Value)) → left ≡ x ∷ xs → right ≡ y ∷ ys → IsPassed IsInner least left → IsPassed IsInner least right → Greater ≡ order.ghosts.cmp x.key y.key
      → pairs_of more ≡ pairs_of done ++ (y.key, y.value) ∷ [] → pairs_of done ++ joined left right ≡ whole → pairs_of more ++ joined left ys ≡ whole
  greater_step x y xs ys left right done more whole e f hl hr greater grown was =
      moved (y.key, y.value) (pairs_of done) (pairs_of more) (joined left right) (joined left ys) whole grown
      (join_greater elem_cmp elem_total elem_exact join (x.key, x.value) (y.key, y.value) (pairs_of xs) (pairs_of ys) (pairs_of left) (pairs_of right) (ap pairs_of e) (ap pairs_of f) hl.rising hr.rising
      (flip_greater elem_cmp elem_total x.key y.key (compared x.key y.key Greater greater))) was

  ended : (left right done first all : List Entry) (whole : List (Elem × Value)) → joined left right ≡ pairs_of left ++ pairs_of right → pairs_of done ++ joined left right ≡ whole
      → pairs_of first ≡ pairs_of done ++ pairs_of left → pairs_of all ≡ pairs_of first ++ pairs_of right → all ≡ entries_of whole
  ended left right done first all whole e was f g =
      sym (entries_back all) ∙ ap entries_of (finished (pairs_of done) (pairs_of left) (pairs_of right) (joined left right) (pairs_of all) whole e was (g ∙ ap (λ l. l ++ pairs_of right) f))

  pub left_ended : (left right done first all : List Entry) (whole : List (Elem × Value)) → IsPassed IsInner least right → length left ≡ 0 → pairs_of done ++ joined left right ≡ whole
      → pairs_of first ≡ pairs_of done ++ pairs_of left → pairs_of all ≡ pairs_of first ++ pairs_of right → all ≡ entries_of whole
  left_ended left right done first all whole hr none was f g =
      ended left right done first all whole (join_left_ended elem_cmp elem_total elem_exact join (pairs_of left) (pairs_of right) hr.rising (length-map left _ ∙ none)) was f g

  pub right_ended : (left right done first all : List Entry) (whole : List (Elem × Value)) → length right ≡ 0 → pairs_of done ++ joined left right ≡ whole
      → pairs_of first ≡ pairs_of done ++ pairs_of left → pairs_of all ≡ pairs_of first ++ pairs_of right → all ≡ entries_of whole
  right_ended left right done first all whole none was f g =
      ended left right done first all whole (join_right_ended elem_cmp elem_total elem_exact join (pairs_of left) (pairs_of right) (length-map right _ ∙ none)) was f g

  -- -- where the join of two maps is the second

  pub below_less : (x y : Entry) (xs ys left right : List Entry) → left ≡ x ∷ xs → right ≡ y ∷ ys → IsPassed IsInner least right → Less ≡ order.ghosts.cmp x.key y.key → joined left right ≡ pairs_of right → ⊥
  below_less x y xs ys left right e f hr less is =
      not_below_less elem_cmp elem_total elem_exact join (x.key, x.value) (y.key, y.value) (pairs_of xs) (pairs_of ys) (pairs_of left) (pairs_of right) (ap pairs_of e) (ap pairs_of f) hr.rising (compared x.key y.key Less less) is

  pub above_at_key : (x y : Entry) (xs ys left right : List Entry) → left ≡ x ∷ xs → right ≡ y ∷ ys → IsPassed IsInner least right → Equal ≡ order.ghosts.cmp x.key y.key → (join x.value y.value ≡ y.value → ⊥) → joined left right ≡ pairs_of right → ⊥
  above_at_key x y xs ys left right e f hr same not is =
      not_below_equal elem_cmp elem_total elem_exact join (x.key, x.value) (y.key, y.value) (pairs_of xs) (pairs_of ys) (pairs_of left) (pairs_of right) (ap pairs_of e) (ap pairs_of f) hr.rising (elem_exact x.key y.key (compared x.key y.key Equal same)) not is

  pub below_at_key : (x y : Entry) (xs ys left right : List Entry) → left ≡ x ∷ xs → right ≡ y ∷ ys → IsPassed IsInner least right → Equal ≡ order.ghosts.cmp x.key y.key → join x.value y.value ≡ y.value → (joined xs ys ≡ pairs_of ys) ↔ (joined left right ≡ pairs_of right)
  below_at_key x y xs ys left right e f hr same below =
      below_equal elem_cmp elem_total elem_exact join (x.key, x.value) (y.key, y.value) (pairs_of xs) (pairs_of ys) (pairs_of left) (pairs_of right) (ap pairs_of e) (ap pairs_of f) hr.rising (elem_exact x.key y.key (compared x.key y.key Equal same)) below

  pub below_past : (x y : Entry) (xs ys left right : List Entry) → left ≡ x ∷ xs → right ≡ y ∷ ys → IsPassed IsInner least left → IsPassed IsInner least right → Greater ≡ order.ghosts.cmp x.key y.key → (joined left ys ≡ pairs_of ys) ↔ (joined left right ≡ pairs_of right)
  below_past x y xs ys left right e f hl hr greater =
      below_greater elem_cmp elem_total elem_exact join (x.key, x.value) (y.key, y.value) (pairs_of xs) (pairs_of ys) (pairs_of left) (pairs_of right) (ap pairs_of e) (ap pairs_of f) hl.rising hr.rising (flip_greater elem_cmp elem_total x.key y.key (compared x.key y.key Greater greater))

  pub below_at_end : (left right : List Entry) → IsPassed IsInner least right → length left ≡ 0 → joined left right ≡ pairs_of right
  below_at_end left right hr none = below_ended elem_cmp elem_total elem_exact join (pairs_of left) (pairs_of right) hr.rising (length-map left _ ∙ none)
