-- What the operations give at the first items of two rising lists.
use Rattle.std.proofs.Common.{◌≡◌, Bool, true, false, cond, not, ◌||◌, ◌&&◌, List, [], ◌∷◌, ◌++◌, length, refl, sym, ap, ◌∙◌, subst, append_assoc, append-nil, arith, ◌↔◌, inl, inr}
use Rattle.std.specs.declared.cmp.Ordering.{Ordering}
use Rattle.std.specs.declared.cmp.Ordering.TheVariants.{Less, Equal, Greater}
use Rattle.std.specs.Prelude.{if◌then◌else◌}
use Rattle.std.specs.Ordering.{match_ordering, eq_by_cmp, is_eq}
use Rattle.std.specs.Cmp.{IsTotalOrder, tied_itself}
use Rattle.std.specs.List.{filter, list_all}
use Rattle.std.specs.List.Sorted.{IsStrictlySortedBy}
use Rattle.std.specs.BTreeSet.{insert_key}
use Rattle.std.proofs.lemmas.Bool.{true≢false, or_cases, or_left, or_right, and_parts, and_from}
use Rattle.lattice_sets.specs.Sets.{Includes, has_item, union_of, intersection_of, difference_of}
use Rattle.lattice_sets.specs.SetLaws.{Above, above_lower, flip_less, same_tied, ties_itself, has_contained, contains_had}

-- a list without items
pub empty_list : {E : Type 0} (xs : List E) → length xs ≡ 0 → xs ≡ []
empty_list [] e = refl
empty_list (x ∷ xs) e = absurd (omega arith)

-- what is done grows by the first item of what is left to do
pub moved : {E : Type 0} (z : E) (done more left rest whole : List E) → more ≡ done ++ z ∷ [] → left ≡ z ∷ rest → done ++ left ≡ whole → more ++ rest ≡ whole
moved z done more left rest whole e f h = ap (λ d. d ++ rest) e ∙ append_assoc done (z ∷ []) rest ∙ ap (λ zs. done ++ zs) (sym f) ∙ h

-- the first item of what is left to do is left out
pub passed : {E : Type 0} (done left rest whole : List E) → left ≡ rest → done ++ left ≡ whole → done ++ rest ≡ whole
passed done left rest whole f h = ap (λ zs. done ++ zs) (sym f) ∙ h

-- the first item of what is left to do is taken if it is wanted
pub taken_if : {E : Type 0} (wanted : Bool) (z : E) (done more left rest whole : List E) → more ≡ done ++ (if wanted then z ∷ [] else []) → left ≡ cond wanted (z ∷ rest) rest → done ++ left ≡ whole → more ++ rest ≡ whole
taken_if true z done more left rest whole e f h = moved z done more left rest whole e f h
taken_if false z done more left rest whole e f h = ap (λ d. d ++ rest) (e ∙ append-nil done) ∙ ap (λ zs. done ++ zs) (sym f) ∙ h

-- with true what holds, with false what doesn't
abbrev pub agrees : Bool → Bool → Bool
agrees true b = b
agrees false b = not b

-- the items of a that b has, or with false those that it lacks
abbrev pub kept_of : {E : Type 0} → (E → E → Ordering) → Bool → List E → List E → List E
kept_of R held a b = filter (λ x. agrees held (has_item R b x)) a

-- what is lacking is what isn't held
lacking : (held : Bool) → agrees held false ≡ not held
lacking true = refl
lacking false = refl

holding : (held : Bool) → agrees held true ≡ held
holding true = refl
holding false = refl

-- which of the two operations that is
pub kept_is : {E : Type 0} (R : E → E → Ordering) (held : Bool) (a b : List E) → kept_of R held a b ≡ (if held then intersection_of R a b else difference_of R a b)
kept_is R true a b = refl
kept_is R false a b = refl

-- whether each item of the second list is in the first
abbrev pub includes_all : {E : Type 0} → (E → E → Ordering) → List E → List E → Bool
includes_all R set items = list_all (λ y. has_item R set y) items

-- what is left to do goes behind what is done
pub finished : {E : Type 0} (done left right rest all whole : List E) → rest ≡ left ++ right → done ++ rest ≡ whole → all ≡ (done ++ left) ++ right → all ≡ whole
finished done left right rest all whole e w is = is ∙ append_assoc done left right ∙ ap (λ zs. done ++ zs) (sym e) ∙ w

module _ {E : Type 0} (R : E → E → Ordering) (o : IsTotalOrder R) where
  pub rising_rest : (x : E) (xs left : List E) → left ≡ x ∷ xs → IsStrictlySortedBy R left → IsStrictlySortedBy R xs
  unfolding IsStrictlySortedBy
  rising_rest x xs left e h = let rest : IsStrictlySortedBy R (x ∷ xs) = subst (IsStrictlySortedBy R) e h in rest.1

  -- what is below the first item of a rising list is below each
  pub below_rising : (x y : E) (ys right : List E) → right ≡ y ∷ ys → IsStrictlySortedBy R right → R x y ≡ Less → Above R x right
  unfolding IsStrictlySortedBy
  below_rising x y ys right f h less = let rest : IsStrictlySortedBy R (y ∷ ys) = subst (IsStrictlySortedBy R) f h in subst (Above R x) (sym f) (less, above_lower R o x y ys less rest.0)

  -- the first item of a rising list is below the others
  pub first_below : (x : E) (xs left : List E) → left ≡ x ∷ xs → IsStrictlySortedBy R left → Above R x xs
  unfolding IsStrictlySortedBy
  first_below x xs left e h = let rest : IsStrictlySortedBy R (x ∷ xs) = subst (IsStrictlySortedBy R) e h in rest.0

  -- -- union

  insert_order : (x k : E) (ys : List E) (r : Ordering) → R k x ≡ r → insert_key R (x ∷ ys) k ≡ match_ordering r (k ∷ x ∷ ys) (x ∷ ys) (x ∷ insert_key R ys k)
  insert_order x k ys r e = ap (λ r. match_ordering r (k ∷ x ∷ ys) (x ∷ ys) (x ∷ insert_key R ys k)) e

  -- an item that is below all of the second list stays in front
  union_front : (x : E) (xs ys : List E) → Above R x ys → union_of R (x ∷ xs) ys ≡ x ∷ union_of R xs ys
  union_front x xs [] h = refl
  union_front x xs (y ∷ ys) h = ap (λ zs. union_of R zs ys) (insert_order x y xs Greater (flip_less R o x y h.0)) ∙ union_front x (insert_key R xs y) ys h.1

  pub union_less : (x y : E) (xs ys left right : List E) → left ≡ x ∷ xs → right ≡ y ∷ ys → IsStrictlySortedBy R right → R x y ≡ Less → union_of R left right ≡ x ∷ union_of R xs right
  union_less x y xs ys left right e f h less = ap (λ l. union_of R l right) e ∙ union_front x xs right (below_rising x y ys right f h less)

  pub union_equal : (x y : E) (xs ys left right : List E) → left ≡ x ∷ xs → right ≡ y ∷ ys → IsStrictlySortedBy R right → x ≡ y → union_of R left right ≡ x ∷ union_of R xs ys
  union_equal x y xs ys left right e f h same =
      let g : right ≡ x ∷ ys = f ∙ ap (λ z. z ∷ ys) (sym same) in
      ap (λ l. union_of R l right) e ∙ ap (union_of R (x ∷ xs)) g ∙ ap (λ zs. union_of R zs ys) (insert_order x x xs Equal (tied_itself o x)) ∙ union_front x xs ys (first_below x ys right g h)

  pub union_greater : (x y : E) (xs ys left right : List E) → left ≡ x ∷ xs → right ≡ y ∷ ys → IsStrictlySortedBy R right → R y x ≡ Less → union_of R left right ≡ y ∷ union_of R left ys
  union_greater x y xs ys left right e f h less =
      ap (union_of R left) f ∙ ap (λ l. union_of R (insert_key R l y) ys) e ∙ ap (λ zs. union_of R zs ys) (insert_order x y xs Less less) ∙ ap (λ l. union_of R (y ∷ l) ys) (sym e)
      ∙ union_front y left ys (first_below y ys right f h)

  union_none : (ys : List E) → IsStrictlySortedBy R ys → union_of R [] ys ≡ ys
  unfolding IsStrictlySortedBy
  union_none [] h = refl
  union_none (y ∷ ys) h = union_front y [] ys h.0 ∙ ap (λ zs. y ∷ zs) (union_none ys h.1)

  -- where one of the lists has ended, the other is what is left
  pub union_left_ended : (left right : List E) → IsStrictlySortedBy R right → length left ≡ 0 → union_of R left right ≡ left ++ right
  union_left_ended left right h e = let none = empty_list left e in ap (λ l. union_of R l right) none ∙ union_none right h ∙ ap (λ l. l ++ right) (sym none)

  pub union_right_ended : (left right : List E) → length right ≡ 0 → union_of R left right ≡ left ++ right
  union_right_ended left right e = let none = empty_list right e in ap (union_of R left) none ∙ sym (append-nil left) ∙ ap (λ r. left ++ r) (sym none)

  -- -- what is kept of the first list by whether the second has it

  pub none_below : (x : E) (ys : List E) → Above R x ys → has_item R ys x ≡ false
  none_below x [] h = refl
  none_below x (y ∷ ys) h = ap (λ r. is_eq r || has_item R ys x) h.0 ∙ none_below x ys h.1

  -- an item of the second list below all of the first has no say
  kept_skip : (held : Bool) (y : E) (xs ys : List E) → Above R y xs → kept_of R held xs (y ∷ ys) ≡ kept_of R held xs ys
  kept_skip held y [] ys h = refl
  kept_skip held y (x ∷ xs) ys h =
      ap (λ r. cond (agrees held (is_eq r || has_item R ys x)) (x ∷ kept_of R held xs (y ∷ ys)) (kept_of R held xs (y ∷ ys))) (flip_less R o y x h.0)
      ∙ ap (λ zs. cond (agrees held (has_item R ys x)) (x ∷ zs) zs) (kept_skip held y xs ys h.1)

  pub kept_less : (held : Bool) (x y : E) (xs ys left right : List E) → left ≡ x ∷ xs → right ≡ y ∷ ys → IsStrictlySortedBy R right → R x y ≡ Less
      → kept_of R held left right ≡ cond (not held) (x ∷ kept_of R held xs right) (kept_of R held xs right)
  kept_less held x y xs ys left right e f h less =
      ap (λ l. kept_of R held l right) e ∙ ap (λ b. cond (agrees held b) (x ∷ kept_of R held xs right) (kept_of R held xs right)) (none_below x right (below_rising x y ys right f h less))
      ∙ ap (λ b. cond b (x ∷ kept_of R held xs right) (kept_of R held xs right)) (lacking held)

  pub kept_equal : (held : Bool) (x y : E) (xs ys left right : List E) → left ≡ x ∷ xs → right ≡ y ∷ ys → IsStrictlySortedBy R left → x ≡ y
      → kept_of R held left right ≡ cond held (x ∷ kept_of R held xs ys) (kept_of R held xs ys)
  kept_equal held x y xs ys left right e f h same =
      ap (λ l. kept_of R held l right) e ∙ ap (kept_of R held (x ∷ xs)) (f ∙ ap (λ z. z ∷ ys) (sym same))
      ∙ ap (λ r. cond (agrees held (is_eq r || has_item R ys x)) (x ∷ kept_of R held xs (x ∷ ys)) (kept_of R held xs (x ∷ ys))) (tied_itself o x)
      ∙ ap (λ zs. cond (agrees held true) (x ∷ zs) zs) (kept_skip held x xs ys (first_below x xs left e h)) ∙ ap (λ b. cond b (x ∷ kept_of R held xs ys) (kept_of R held xs ys)) (holding held)

  pub kept_greater : (held : Bool) (x y : E) (xs ys left right : List E) → left ≡ x ∷ xs → right ≡ y ∷ ys → IsStrictlySortedBy R left → R y x ≡ Less → kept_of R held left right ≡ kept_of R held left ys
  kept_greater held x y xs ys left right e f h less = ap (kept_of R held left) f ∙ kept_skip held y left ys (below_rising y x xs left e h less)

  -- where one of the lists has ended, nothing is held, and all that is left is lacking
  kept_nothing : (held : Bool) (xs : List E) → kept_of R held xs [] ≡ (if held then [] else xs)
  kept_nothing true [] = refl
  kept_nothing false [] = refl
  kept_nothing true (x ∷ xs) = kept_nothing true xs
  kept_nothing false (x ∷ xs) = ap (λ zs. x ∷ zs) (kept_nothing false xs)

  pub kept_right_ended : (held : Bool) (left right : List E) → length right ≡ 0 → kept_of R held left right ≡ (if held then [] else left)
  kept_right_ended held left right e = ap (kept_of R held left) (empty_list right e) ∙ kept_nothing held left

  kept_none : (held : Bool) (right : List E) → kept_of R held [] right ≡ (if held then [] else [])
  kept_none true right = refl
  kept_none false right = refl

  pub kept_left_ended : (held : Bool) (left right : List E) → length left ≡ 0 → kept_of R held left right ≡ (if held then [] else left)
  kept_left_ended held left right e = ap (λ l. kept_of R held l right) (empty_list left e) ∙ kept_none held right ∙ ap (λ (l : List E). if held then [] else l) (sym (empty_list left e))

  -- what is done is all that is held, and with what is left all that is lacking
  pub kept_held : (held : Bool) (left right done whole : List E) → held ≡ true → kept_of R held left right ≡ (if held then [] else left) → done ++ kept_of R held left right ≡ whole → done ≡ whole
  kept_held true left right done whole e n w = sym (append-nil done) ∙ ap (λ zs. done ++ zs) (sym n) ∙ w
  kept_held false left right done whole e n w = cc

  pub kept_lacking : (held : Bool) (left right done all whole : List E) → held ≡ false → kept_of R held left right ≡ (if held then [] else left) → done ++ kept_of R held left right ≡ whole → all ≡ done ++ left → all ≡ whole
  kept_lacking false left right done all whole e n w is = is ∙ ap (λ zs. done ++ zs) (sym n) ∙ w
  kept_lacking true left right done all whole e n w is = cc

  -- -- inclusion

  -- an item of the set below all of the items has no say
  includes_skip : (x : E) (xs items : List E) → Above R x items → includes_all R (x ∷ xs) items ≡ includes_all R xs items
  includes_skip x xs [] h = refl
  includes_skip x xs (y ∷ ys) h =
      ap (λ r. (is_eq r || has_item R xs y) && includes_all R (x ∷ xs) ys) (flip_less R o x y h.0) ∙ ap (λ b. has_item R xs y && b) (includes_skip x xs ys h.1)

  pub includes_less : (x y : E) (xs ys set items : List E) → set ≡ x ∷ xs → items ≡ y ∷ ys → IsStrictlySortedBy R items → R x y ≡ Less → includes_all R set items ≡ includes_all R xs items
  includes_less x y xs ys set items e f h less = ap (λ s. includes_all R s items) e ∙ includes_skip x xs items (below_rising x y ys items f h less)

  pub includes_equal : (x y : E) (xs ys set items : List E) → set ≡ x ∷ xs → items ≡ y ∷ ys → IsStrictlySortedBy R items → x ≡ y → includes_all R set items ≡ includes_all R xs ys
  includes_equal x y xs ys set items e f h same =
      let g : items ≡ x ∷ ys = f ∙ ap (λ z. z ∷ ys) (sym same) in
      ap (λ s. includes_all R s items) e ∙ ap (includes_all R (x ∷ xs)) g ∙ ap (λ r. (is_eq r || has_item R xs x) && includes_all R (x ∷ xs) ys) (tied_itself o x) ∙ includes_skip x xs ys (first_below x ys items g h)

  pub includes_greater : (x y : E) (xs ys set items : List E) → set ≡ x ∷ xs → items ≡ y ∷ ys → IsStrictlySortedBy R set → R y x ≡ Less → includes_all R set items ≡ false
  includes_greater x y xs ys set items e f h less = ap (includes_all R set) f ∙ ap (λ b. b && includes_all R set ys) (none_below y set (below_rising y x xs set e h less))

  pub includes_none : (y : E) (ys set items : List E) → length set ≡ 0 → items ≡ y ∷ ys → includes_all R set items ≡ false
  includes_none y ys set items e f = ap (λ s. includes_all R s items) (empty_list set e) ∙ ap (includes_all R []) f

  pub includes_ended : (set items : List E) → length items ≡ 0 → includes_all R set items ≡ true
  includes_ended set items e = ap (includes_all R set) (empty_list items e)

module _ {E : Type 0} (R : E → E → Ordering) (o : IsTotalOrder R) (exact : (x y : E) → R x y ≡ Equal → x ≡ y) where
  each_passes : (p : E → Bool) (xs : List E) (x : E) → list_all p xs ≡ true → has_item R xs x ≡ true → p x ≡ true
  each_passes p [] x all h = absurd (true≢false (sym h))
  each_passes p (y ∷ ys) x all h =
      let parts = and_parts (p y) (list_all p ys) all in
      elim (or_cases (eq_by_cmp R x y) (has_item R ys x) h) [ inl e ↦ ap p (same_tied R o exact x y e) ∙ parts.0 | inr later ↦ each_passes p ys x parts.1 later ]

  all_pass : (p : E → Bool) (xs : List E) → ((x : E) → has_item R xs x ≡ true → p x ≡ true) → list_all p xs ≡ true
  all_pass p [] each = refl
  all_pass p (y ∷ ys) each =
      and_from (p y) (list_all p ys) (each y (or_left (eq_by_cmp R y y) (has_item R ys y) (ties_itself R o exact y))) (all_pass p ys (λ x h. each x (or_right (eq_by_cmp R x y) (has_item R ys x) h)))

  -- the test is inclusion
  pub includes_answer : (set items : List E) (b : Bool) → b ≡ includes_all R set items → (b ≡ true) ↔ Includes set items
  includes_answer set items b is = (
    λ e x c. contains_had R o exact set x (each_passes (λ y. has_item R set y) items x (sym is ∙ e) (has_contained R o exact items x c)),
    λ h. is ∙ all_pass (λ y. has_item R set y) items (λ x e. has_contained R o exact set x (h x (contains_had R o exact items x e))),
  )
