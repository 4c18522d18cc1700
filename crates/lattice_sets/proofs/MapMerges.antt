-- What a join of two maps gives at their first entries.
use Rattle.std.proofs.Common.{◌≡◌, ◌↔◌, ℕ, ◌<◌, get_or, arith, true, false, cond, List, [], ◌∷◌, ◌++◌, length, Some, refl, sym, ap, ◌∙◌, subst, append-nil}
use Rattle.std.specs.declared.cmp.Ordering.{Ordering}
use Rattle.std.specs.declared.cmp.Ordering.TheVariants.{Less, Equal, Greater}
use Rattle.std.specs.Ordering.{is_eq, match_ordering}
use Rattle.std.specs.Cmp.{IsTotalOrder, tied_itself}
use Rattle.std.specs.List.Sorted.{IsStrictlySortedBy}
use Rattle.std.specs.Map.{keys_of, values_of}
use Rattle.std.specs.BTreeMap.{insert_entry}
use Rattle.std.proofs.lemmas.Bool.{false≢true}
use Rattle.std.proofs.lemmas.List.{length-map, get_or-map}
use Rattle.std.proofs.lemmas.List.Elements.{All-head, All-tail}
use Rattle.lattice_sets.specs.Maps.{AllKept, IsMap, joined_to, map_join, value_at}
use Rattle.lattice_sets.specs.MapLaws.{value_below}
use Rattle.lattice_sets.specs.SetLaws.{less≢equal, Above, flip_less}
use Rattle.lattice_sets.proofs.Merges.{below_rising, first_below, rising_rest, empty_list}

module _ {K V : Type 0} (R : K → K → Ordering) (o : IsTotalOrder R) (exact : (x y : K) → R x y ≡ Equal → x ≡ y) (joined : V → V → V) where
  -- the value that y's entry is joined to where its key compares so to x's
  abbrev into : Ordering → K × V → K × V → List (K × V) → V
  into r x y xs = joined_to joined (cond (is_eq r) (Some x.1) (value_at R xs y.0)) y.1

  -- x's entry, with y's joined in where their keys compare so
  abbrev placed : Ordering → K × V → K × V → List (K × V) → List (K × V)
  placed r x y xs = match_ordering r ((y.0, into r x y xs) ∷ x ∷ xs) ((x.0, into r x y xs) ∷ xs) (x ∷ insert_entry R xs y.0 (into r x y xs))

  join_step : (x y : K × V) (xs ys : List (K × V)) (r : Ordering) → R y.0 x.0 ≡ r → map_join R joined (x ∷ xs) (y ∷ ys) ≡ map_join R joined (placed r x y xs) ys
  join_step x y xs ys r e = ap (λ r. map_join R joined (placed r x y xs) ys) e

  -- an entry whose key is below all of the second map's stays in front
  join_front : (x : K × V) (xs ys : List (K × V)) → Above R x.0 (keys_of ys) → map_join R joined (x ∷ xs) ys ≡ x ∷ map_join R joined xs ys
  join_front x xs [] h = refl
  join_front x xs (y ∷ ys) h = join_step x y xs ys Greater (flip_less R o x.0 y.0 h.0) ∙ join_front x (insert_entry R xs y.0 (joined_to joined (value_at R xs y.0) y.1)) ys h.1

  pub join_less : (x y : K × V) (xs ys left right : List (K × V)) → left ≡ x ∷ xs → right ≡ y ∷ ys → IsStrictlySortedBy R (keys_of right) → R x.0 y.0 ≡ Less → map_join R joined left right ≡ x ∷ map_join R joined xs right
  join_less x y xs ys left right e f h less = ap (λ l. map_join R joined l right) e ∙ join_front x xs right (below_rising R o x.0 y.0 (keys_of ys) (keys_of right) (ap keys_of f) h less)

  pub join_equal : (x y : K × V) (xs ys left right : List (K × V)) → left ≡ x ∷ xs → right ≡ y ∷ ys → IsStrictlySortedBy R (keys_of right) → x.0 ≡ y.0 → map_join R joined left right ≡ (x.0, joined x.1 y.1) ∷ map_join R joined xs ys
  join_equal x y xs ys left right e f h same =
      ap (λ l. map_join R joined l right) e ∙ ap (map_join R joined (x ∷ xs)) f ∙ join_step x y xs ys Equal (ap (R y.0) same ∙ tied_itself o y.0)
      ∙ join_front (x.0, joined x.1 y.1) xs ys (subst (λ k. Above R k (keys_of ys)) (sym same) (first_below R o y.0 (keys_of ys) (keys_of right) (ap keys_of f) h))

  pub join_greater : (x y : K × V) (xs ys left right : List (K × V)) → left ≡ x ∷ xs → right ≡ y ∷ ys → IsStrictlySortedBy R (keys_of left) → IsStrictlySortedBy R (keys_of right) → R y.0 x.0 ≡ Less → map_join R joined left right ≡ y ∷ map_join R joined left ys
  join_greater x y xs ys left right e f g h less =
      let lower : Above R y.0 (keys_of (x ∷ xs)) = subst (λ l. Above R y.0 (keys_of l)) e (below_rising R o y.0 x.0 (keys_of xs) (keys_of left) (ap keys_of e) g less) in
      ap (λ l. map_join R joined l right) e ∙ ap (map_join R joined (x ∷ xs)) f ∙ join_step x y xs ys Less less
      ∙ ap (λ z. map_join R joined ((y.0, joined_to joined z y.1) ∷ x ∷ xs) ys) (value_below R o exact y.0 xs lower.1) ∙ ap (λ l. map_join R joined (y ∷ l) ys) (sym e)
      ∙ join_front y left ys (first_below R o y.0 (keys_of ys) (keys_of right) (ap keys_of f) h)

  join_none : (ys : List (K × V)) → IsStrictlySortedBy R (keys_of ys) → map_join R joined [] ys ≡ ys
  unfolding IsStrictlySortedBy
  join_none [] h = refl
  join_none (y ∷ ys) h = join_front y [] ys h.0 ∙ ap (λ zs. y ∷ zs) (join_none ys h.1)

  pub join_left_ended : (left right : List (K × V)) → IsStrictlySortedBy R (keys_of right) → length left ≡ 0 → map_join R joined left right ≡ left ++ right
  join_left_ended left right h e = let none = empty_list left e in ap (λ l. map_join R joined l right) none ∙ join_none right h ∙ ap (λ l. l ++ right) (sym none)

  pub join_right_ended : (left right : List (K × V)) → length right ≡ 0 → map_join R joined left right ≡ left ++ right
  join_right_ended left right e = let none = empty_list right e in ap (map_join R joined left) none ∙ sym (append-nil left) ∙ ap (λ r. left ++ r) (sym none)

module _ {K V : Type 0} (Valid : V → Type 0) (least : V) where
  pub first_kept : (x : K × V) (xs left : List (K × V)) → left ≡ x ∷ xs → AllKept Valid least left → Valid x.1
  first_kept x xs left e h = (All-head (λ v. Valid v × (v ≡ least → ⊥)) x.1 (values_of xs) (subst (AllKept Valid least) e h)).0

  pub rest_kept : (x : K × V) (xs left : List (K × V)) → left ≡ x ∷ xs → AllKept Valid least left → AllKept Valid least xs
  rest_kept x xs left e h = All-tail (λ v. Valid v × (v ≡ least → ⊥)) x.1 (values_of xs) (subst (AllKept Valid least) e h)

  pub kept_at : (m : List (K × V)) (i : ℕ) (e : K × V) → AllKept Valid least m → i < length m → e ≡ get_or m i e → Valid e.1
  kept_at m i e h range is = subst (λ x. Valid x.1) (sym is) (subst Valid (get_or-map (λ x. x.1) m i e e.1 range) (h i e.1 (omega (arith, length-map m (λ x. x.1)))).0)

  pub rest_map : (R : K → K → Ordering) (o : IsTotalOrder R) (x : K × V) (xs left : List (K × V)) → left ≡ x ∷ xs → IsMap R Valid least left → IsMap R Valid least xs
  rest_map R o x xs left e h = record { rising = rising_rest R o x.0 (keys_of xs) (keys_of left) (ap keys_of e) h.rising; kept = rest_kept x xs left e h.kept }

same_first : {X : Type 0} (x y : X) (xs ys : List X) → x ∷ xs ≡ y ∷ ys → x ≡ y
same_first x y xs ys e = cc

same_rest : {X : Type 0} (x y : X) (xs ys : List X) → x ∷ xs ≡ y ∷ ys → xs ≡ ys
same_rest x y xs ys e = cc

some≢empty : {X : Type 0} (x : X) (xs : List X) → x ∷ xs ≡ [] → ⊥
some≢empty x xs e = cc

-- two lists are equal where their first items and the others are
pub same_parts : {X : Type 0} (x y : X) (xs ys left right : List X) → left ≡ x ∷ xs → right ≡ y ∷ ys → x ≡ y → (xs ≡ ys) ↔ (left ≡ right)
same_parts x y xs ys left right e f same = (λ h. e ∙ ap (λ z. z ∷ xs) same ∙ ap (λ zs. y ∷ zs) h ∙ sym f, λ h. same_rest x y xs ys (sym e ∙ h ∙ f))

-- -- where the join of two maps is the second

module _ {K V : Type 0} (R : K → K → Ordering) (o : IsTotalOrder R) (exact : (x y : K) → R x y ≡ Equal → x ≡ y) (joined : V → V → V) where
  pub not_below_less : (x y : K × V) (xs ys left right : List (K × V)) → left ≡ x ∷ xs → right ≡ y ∷ ys → IsStrictlySortedBy R (keys_of right) → R x.0 y.0 ≡ Less → map_join R joined left right ≡ right → ⊥
  not_below_less x y xs ys left right e f h less is =
      let same : x ≡ y = same_first x y (map_join R joined xs right) ys (sym (join_less R o exact joined x y xs ys left right e f h less) ∙ is ∙ f) in
      less≢equal (sym less ∙ ap (λ z. R x.0 z.0) (sym same) ∙ tied_itself o x.0)

  pub not_below_ended : (x : K × V) (xs left right : List (K × V)) → left ≡ x ∷ xs → length right ≡ 0 → map_join R joined left right ≡ right → ⊥
  not_below_ended x xs left right e none is =
      some≢empty x (xs ++ right) (ap (λ l. l ++ right) (sym e) ∙ sym (join_right_ended R o exact joined left right none) ∙ is ∙ empty_list right none)

  pub below_equal : (x y : K × V) (xs ys left right : List (K × V)) → left ≡ x ∷ xs → right ≡ y ∷ ys → IsStrictlySortedBy R (keys_of right) → x.0 ≡ y.0 → joined x.1 y.1 ≡ y.1 → (map_join R joined xs ys ≡ ys) ↔ (map_join R joined left right ≡ right)
  below_equal x y xs ys left right e f h same is =
      let entry : (x.0, joined x.1 y.1) ≡ y = ap (λ k. (k, joined x.1 y.1)) same ∙ ap (λ v. (y.0, v)) is in
      same_parts (x.0, joined x.1 y.1) y (map_join R joined xs ys) ys (map_join R joined left right) right (join_equal R o exact joined x y xs ys left right e f h same) f entry

  pub not_below_equal : (x y : K × V) (xs ys left right : List (K × V)) → left ≡ x ∷ xs → right ≡ y ∷ ys → IsStrictlySortedBy R (keys_of right) → x.0 ≡ y.0 → (joined x.1 y.1 ≡ y.1 → ⊥) → map_join R joined left right ≡ right → ⊥
  not_below_equal x y xs ys left right e f h same not is =
      not (ap (λ z. z.1) (same_first (x.0, joined x.1 y.1) y (map_join R joined xs ys) ys (sym (join_equal R o exact joined x y xs ys left right e f h same) ∙ is ∙ f)))

  pub below_greater : (x y : K × V) (xs ys left right : List (K × V)) → left ≡ x ∷ xs → right ≡ y ∷ ys → IsStrictlySortedBy R (keys_of left) → IsStrictlySortedBy R (keys_of right) → R y.0 x.0 ≡ Less → (map_join R joined left ys ≡ ys) ↔ (map_join R joined left right ≡ right)
  below_greater x y xs ys left right e f g h less =
      same_parts y y (map_join R joined left ys) ys (map_join R joined left right) right (join_greater R o exact joined x y xs ys left right e f g h less) f refl

  pub below_ended : (left right : List (K × V)) → IsStrictlySortedBy R (keys_of right) → length left ≡ 0 → map_join R joined left right ≡ right
  below_ended left right h none = join_left_ended R o exact joined left right h none ∙ ap (λ l. l ++ right) (empty_list left none)

-- an answer that is false, and one that is true
pub answer_no : {P Q : Type 0} → P ↔ Q → (P → ⊥) → (false ≡ true) ↔ Q
answer_no iff not = (λ e. absurd (false≢true e), λ q. absurd (not (iff.1 q)))

pub answer_yes : {P Q : Type 0} → P ↔ Q → P → (true ≡ true) ↔ Q
answer_yes iff p = (λ e. iff.0 p, λ q. refl)

pub iff_then : {P Q S : Type 0} → P ↔ Q → Q ↔ S → P ↔ S
iff_then a b = (λ p. b.0 (a.0 p), λ s. a.1 (b.1 s))
