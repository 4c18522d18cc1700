-- Which values have a text: rising lists, and lists of parts.
use Rattle.std.proofs.Common.{◌≡◌, ◌↔◌, ℕ, zero, suc, ◌+◌, ◌<◌, ◌≤◌, get_or, take, Bool, true, false, List, [], ◌∷◌, length, map, refl, sym, ap, ◌∙◌, subst, arith}
use Rattle.std.specs.Prelude.{All}
use Rattle.std.specs.declared.cmp.Ordering.{Ordering}
use Rattle.std.specs.declared.cmp.Ordering.TheVariants.{Less, Equal, Greater}
use Rattle.std.specs.List.{AllAdjacentBelow, AllByRecursion, IsAllAdjacentAnswer}
use Rattle.std.specs.List.Sorted.{IsStrictlySortedBy}
use Rattle.std.specs.Ordering.{is_lt}
use Rattle.std.proofs.lemmas.Bool.{and_parts, both_ways}
use Rattle.std.proofs.lemmas.Bool.Decides.{same_from_decides}
use Rattle.std.proofs.lemmas.List.{take_all}
use Rattle.std.proofs.lemmas.List.Elements.{All-more}
use Rattle.flow_term.specs.contracts.elem.ElemOrd.TheImpl as order
use Rattle.flow_term.specs.declared.elem.Elem.{Elem, Elem-F, out-Elem}
use Rattle.flow_term.specs.declared.elem.Elem.TheVariants as elem
use Rattle.flow_term.specs.Elements.{elem_cmp}
use Rattle.flow_term.specs.ElementsLaws.{elements_ordered}
use Rattle.flow_syntax.specs.Accepted.{IsIdentifier}
use Rattle.value_domains.specs.inner.Elements.{elem_total}
use Rattle.value_text.specs.Rising.{is_below_first, rises}
use Rattle.value_text.specs.Texts.{HasElemText, MayBeWritten}
use Rattle.value_text.proofs.Numbers.{both}

-- ** rising lists

above_lower : (x y : Elem) (zs : List Elem) → elem_cmp x y ≡ Less → AllByRecursion (λ z. elem_cmp y z ≡ Less) zs → AllByRecursion (λ z. elem_cmp x z ≡ Less) zs
above_lower x y [] e h = tt
above_lower x y (z ∷ zs) e h = (elem_total.trans x y z e h.0, above_lower x y zs e h.1)

lt_is : (o : Ordering) → (is_lt o ≡ true) ↔ (o ≡ Less)
lt_is Less = (λ h. refl, λ h. refl)
lt_is Equal = (λ h. cc, λ h. cc)
lt_is Greater = (λ h. cc, λ h. cc)

above_first : (x : Elem) (xs : List Elem) → IsStrictlySortedBy elem_cmp xs → is_below_first x xs ≡ true → AllByRecursion (λ z. elem_cmp x z ≡ Less) xs
unfolding IsStrictlySortedBy
above_first x [] h b = tt
above_first x (y ∷ ys) h b = let less : elem_cmp x y ≡ Less = (lt_is (elem_cmp x y)).0 b in (less, above_lower x y ys less h.0)

first_above : (x : Elem) (xs : List Elem) → IsStrictlySortedBy elem_cmp (x ∷ xs) → is_below_first x xs ≡ true
unfolding IsStrictlySortedBy
first_above x [] h = refl
first_above x (y ∷ ys) h = (lt_is (elem_cmp x y)).1 h.0.0

-- what is tested of a list that rises
rises_tells : (xs : List Elem) → (rises xs ≡ true) ↔ IsStrictlySortedBy elem_cmp xs
unfolding IsStrictlySortedBy
rises_tells [] = (λ h. tt, λ h. refl)
rises_tells (x ∷ xs) = (
  λ h. let parts = and_parts (is_below_first x xs) (rises xs) h in let others = (rises_tells xs).0 parts.1 in (above_first x xs others parts.0, others),
  λ h. both (is_below_first x xs) (rises xs) (first_above x xs h) ((rises_tells xs).1 h.1),
)

pub rising : (xs : List Elem) → rises xs ≡ true → IsStrictlySortedBy elem_cmp xs
rising xs h = (rises_tells xs).0 h

pub rising_is_told : (xs : List Elem) → IsStrictlySortedBy elem_cmp xs → rises xs ≡ true
rising_is_told xs h = (rises_tells xs).1 h

pub tested : (xs : List Elem) (r : Bool) → (r ≡ true) ↔ IsStrictlySortedBy elem_cmp xs → rises xs ≡ r
tested xs r h = same_from_decides (rises xs) r (rises_tells xs) h

-- what a test of each thing and the next answers, by keys
module _ {X : Type 0} (key : X → Elem) where
  abbrev is_next : X → X → Bool
  is_next x y = is_lt (order.ghosts.cmp (key x) (key y))

  next_is : (x y : X) → is_next x y ≡ is_lt (elem_cmp (key x) (key y))
  next_is x y = ap is_lt (elements_ordered (key x) (key y))

  after : (k : ℕ) → suc k + 1 ≡ suc (k + 1)
  after k = omega arith

  all_next : (xs : List X) → AllAdjacentBelow (λ x y. true ≡ is_next x y) xs (length xs) → rises (map key xs) ≡ true
  all_next [] h = refl
  all_next (x ∷ []) h = refl
  all_next (x ∷ y ∷ ys) h =
      both (is_lt (elem_cmp (key x) (key y))) (rises (map key (y ∷ ys))) (sym (next_is x y) ∙ sym (h 0 x (omega arith)))
      (all_next (y ∷ ys) (λ k d l. subst (λ n. true ≡ is_next (get_or (y ∷ ys) k d) (get_or (x ∷ y ∷ ys) n d)) (after k) (h (suc k) d (omega (arith, l)))))

  each_next : (xs : List X) (k : ℕ) (d : X) → rises (map key xs) ≡ true → k + 1 < length xs → is_next (get_or xs k d) (get_or xs (k + 1) d) ≡ true
  each_next [] k d h l = absurd (omega (arith, l))
  each_next (x ∷ []) k d h l = absurd (omega (arith, l))
  each_next (x ∷ y ∷ ys) zero d h l = next_is x y ∙ (and_parts (is_lt (elem_cmp (key x) (key y))) (rises (map key (y ∷ ys))) h).0
  each_next (x ∷ y ∷ ys) (suc k) d h l =
      subst (λ n. is_next (get_or (y ∷ ys) k d) (get_or (x ∷ y ∷ ys) n d) ≡ true) (sym (after k)) (each_next (y ∷ ys) k d (and_parts (is_lt (elem_cmp (key x) (key y))) (rises (map key (y ∷ ys))) h).1 (omega (arith, l)))

  some_not : (xs : List X) (k : ℕ) → k + 1 < length xs → ((d : X) → false ≡ is_next (get_or xs k d) (get_or xs (k + 1) d)) → IsStrictlySortedBy elem_cmp (map key xs) → ⊥
  some_not [] k l h up = absurd (omega (arith, l))
  some_not (x ∷ xs) k l h up = both_ways (is_next (get_or (x ∷ xs) k x) (get_or (x ∷ xs) (k + 1) x)) (sym (h x)) (each_next (x ∷ xs) k x (rising_is_told (map key (x ∷ xs)) up) l)

  pub next_tells : (xs : List X) (r : Bool) → IsAllAdjacentAnswer (λ x y b. b ≡ is_next x y) xs r → (r ≡ true) ↔ IsStrictlySortedBy elem_cmp (map key xs)
  next_tells xs true h = (λ _. rising (map key xs) (all_next xs h), λ _. refl)
  next_tells xs false h = (λ e. absurd (both_ways false refl e), λ up. absurd (some_not xs h.0 h.1 h.2 up))

map_same : (xs : List Elem) → map (λ x. x) xs ≡ xs
map_same [] = refl
map_same (x ∷ xs) = ap (λ ys. x ∷ ys) (map_same xs)

pub elems_told : (xs : List Elem) (r : Bool) → IsAllAdjacentAnswer (λ x y b. b ≡ is_lt (order.ghosts.cmp x y)) xs r → (r ≡ true) ↔ IsStrictlySortedBy elem_cmp xs
elems_told xs r h = subst (λ ys. (r ≡ true) ↔ IsStrictlySortedBy elem_cmp ys) (map_same xs) (next_tells (λ x. x) xs r h)

-- ** items

-- an item has a text where it's an identifier, however deep
pub item_text : (n : ℕ) (e : Elem) (text : List ℕ) (r : Bool) → e ≡ elem.Item text → (r ≡ true) ↔ IsIdentifier text → (r ≡ true) ↔ HasElemText n e
item_text zero e text r is h = subst (λ (x : Elem-F Elem). (r ≡ true) ↔ MayBeWritten (λ _. ⊥) x) (sym (ap out-Elem is ∙ elem.outs-Item text)) h
item_text (suc n) e text r is h = subst (λ (x : Elem-F Elem). (r ≡ true) ↔ MayBeWritten (HasElemText n) x) (sym (ap out-Elem is ∙ elem.outs-Item text)) h

-- ** lists

pub one_more : {X : Type 0} (P : X → Type 0) (xs : List X) (i : ℕ) (x : X) → i < length xs → x ≡ get_or xs i x → All P (take i xs) → P x → All P (take (i + 1) xs)
one_more P xs i x range is all p = All-more P xs i x range all (subst P is p)

pub all_taken : {X : Type 0} (P : X → Type 0) (xs : List X) (i : ℕ) → length xs ≤ i → All P (take i xs) → (true ≡ true) ↔ All P xs
all_taken P xs i range all = (λ h. subst (All P) (take_all i xs range) all, λ h. refl)
