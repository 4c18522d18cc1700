-- The first item of a list that passes a test, where each item stands before those behind it by its tuple; lists of tuples that do.
use Rattle.std.proofs.Common.{◌≡◌, ℕ, zero, suc, ◌+◌, ◌<◌, ◌⊎◌, Bool, true, false, cond, List, [], ◌∷◌, ◌++◌, map, arith, Some, None, zero-add, refl, sym, ◌∙◌, subst, inl, inr}
use Rattle.std.specs.Prelude.{All, Contains, find}
use Rattle.std.specs.List.{range_with_len}
use mathlib.Core.Logic.{⊎_elim}
use Rattle.std.proofs.lemmas.List.Elements.{All-head, All-tail, All-append, All-map, All-weaker, All-contains, All-contains_itself, All-from_get_or, Contains-append_left, Contains-append_right}
use Rattle.std.proofs.lemmas.List.FromFn.{length-range_with_len, get_or-range_with_len}
use Rattle.itertools.specs.Product.{rows}
use Rattle.itertools.proofs.ListFactLemmas.{All-rows}
use Rattle.flow_syntax.proofs.Listed.{Contains_here, Contains_behind}
use Rattle.table_laws.specs.Tuples.{IsBefore}

-- THE ORDER OF TUPLES

pub one_way : (p q : List ℕ) → IsBefore p q → IsBefore q p → ⊥
one_way [] q h k = h
one_way (x ∷ p) [] h k = h
one_way (x ∷ p) (y ∷ q) h k = ⊎_elim
    (λ (a : x < y). ⊎_elim (λ (b : y < x). omega (arith, a, b)) (λ (b : (y ≡ x) × IsBefore q p). omega (arith, a, b.0)) k)
    (λ (a : (x ≡ y) × IsBefore p q). ⊎_elim (λ (b : y < x). omega (arith, a.0, b)) (λ (b : (y ≡ x) × IsBefore q p). one_way p q a.1 b.1) k)
    h

before_longer : (p q r s : List ℕ) → IsBefore p q → IsBefore (p ++ r) (q ++ s)
before_longer [] q r s h = absurd h
before_longer (x ∷ p) [] r s h = absurd h
before_longer (x ∷ p) (y ∷ q) r s h = ⊎_elim (λ (a : x < y). inl a) (λ (a : (x ≡ y) × IsBefore p q). inr (a.0, before_longer p q r s a.1)) h

before_behind : (p r s : List ℕ) → IsBefore r s → IsBefore (p ++ r) (p ++ s)
before_behind [] r s h = h
before_behind (x ∷ p) r s h = inr (refl, before_behind p r s h)

-- ITEMS OF LISTS

here_or_behind : {X : Type 0} (x : X) (xs : List X) (y : X) → Contains (x ∷ xs) y → (x ≡ y) ⊎ Contains xs y
here_or_behind x xs y (zero, l, e) = inl e
here_or_behind x xs y (suc k, l, e) = inr (k, omega (arith, l), e)

Contains_mapped : {X Y : Type 0} (f : X → Y) (xs : List X) (x : X) → Contains xs x → Contains (map f xs) (f x)
Contains_mapped f [] x h = absurd (omega (arith, h.1))
Contains_mapped f (y ∷ xs) x h = ⊎_elim
    (λ (e : y ≡ x). subst (λ z. Contains (f y ∷ map f xs) (f z)) e (Contains_here (f y) (map f xs)))
    (λ (k : Contains xs x). Contains_behind (f y) (map f xs) (f x) (Contains_mapped f xs x k))
    (here_or_behind y xs x h)

pub in_rows : {X Y : Type 0} (xs : List X) (ys : List Y) (x : X) (y : Y) → Contains xs x → Contains ys y → Contains (rows xs ys) (x, y)
in_rows [] ys x y h k = absurd (omega (arith, h.1))
in_rows {X} {Y} (w ∷ xs) ys x y h k = ⊎_elim
    (λ (e : w ≡ x). Contains-append_left (map (λ y. (w, y)) ys) (rows xs ys) (x, y) (subst (λ z. Contains {X = X × Y} (map (λ y. (w, y)) ys) (z, y)) e (Contains_mapped (λ y. (w, y)) ys y k)))
    (λ (later : Contains xs x). Contains-append_right (map (λ y. (w, y)) ys) (rows xs ys) (x, y) (in_rows xs ys x y later k))
    (here_or_behind w xs x h)

pub rows_in : {X Y : Type 0} (xs : List X) (ys : List Y) (p : X × Y) → Contains (rows xs ys) p → Contains xs p.0 × Contains ys p.1
rows_in xs ys p h = All-contains (λ p. Contains xs p.0 × Contains ys p.1) (rows xs ys) p (All-rows (Contains xs) (Contains ys) xs ys (All-contains_itself xs) (All-contains_itself ys)) h

pub in_range : (n i : ℕ) → i < n → Contains (range_with_len 0 n) i
in_range n i h = (i, omega (arith, h, length-range_with_len 0 n), get_or-range_with_len 0 n i i h ∙ zero-add i)

range_all : (P : ℕ → Type 0) (a n : ℕ) → ((i : ℕ) → a < i + 1 → i < a + n → P i) → All P (range_with_len a n)
range_all P a n each = All-from_get_or P (range_with_len a n) 0 (λ i h.
    let within : i < n = omega (arith, h, length-range_with_len a n) in
    subst P (sym (get_or-range_with_len a n i 0 within)) (each (a + i) (omega arith) (omega (arith, within))))

pub range_in : (n i : ℕ) → Contains (range_with_len 0 n) i → i < n
range_in n i h = All-contains (λ i. i < n) (range_with_len 0 n) i (range_all (λ i. i < n) 0 n (λ i low high. omega (arith, high))) h

-- RISING LISTS

module _ {X : Type 0} (tuple : X → List ℕ) where
  -- each stands before those behind it
  abbrev pub Rises : List X → Type 0
  Rises [] = Unit {0}
  Rises (x ∷ xs) = All (λ y. IsBefore (tuple x) (tuple y)) xs × Rises xs

  rises_append : (xs ys : List X) → Rises xs → Rises ys → All (λ x. All (λ y. IsBefore (tuple x) (tuple y)) ys) xs → Rises (xs ++ ys)
  rises_append [] ys rx ry cross = ry
  rises_append (x ∷ xs) ys rx ry cross = (
    All-append (λ y. IsBefore (tuple x) (tuple y)) xs ys rx.0 (All-head (λ x. All (λ y. IsBefore (tuple x) (tuple y)) ys) x xs cross),
    rises_append xs ys rx.1 ry (All-tail (λ x. All (λ y. IsBefore (tuple x) (tuple y)) ys) x xs cross),
  )

  abbrev PassesFirst : (X → Bool) → List X → X → Type 0
  PassesFirst test zs x = (test x ≡ true) × Contains zs x × ((y : X) → Contains zs y → IsBefore (tuple y) (tuple x) → test y ≡ false)

  -- what is found passes, and nothing before it
  pub found_first : (test : X → Bool) (zs : List X) (x : X) → Rises zs → find test zs ≡ Some x → PassesFirst test zs x
  found_first test [] x r e = cc
  found_first test (z ∷ zs) x r e = by (test z) refl e (found_first test zs x r.1)
    where
      by : (b : Bool) → test z ≡ b → cond b (Some z) (find test zs) ≡ Some x → (find test zs ≡ Some x → PassesFirst test zs x) → PassesFirst test (z ∷ zs) x
      by true h k later =
          let same : z ≡ x = cc in (
            subst (λ x. test x ≡ true) same h,
            subst (Contains (z ∷ zs)) same (Contains_here z zs),
            λ y c b. ⊎_elim
                (λ (e : z ≡ y). absurd (let back : IsBefore (tuple z) (tuple z) = subst (λ w. IsBefore (tuple z) (tuple w)) (sym same) (subst (λ w. IsBefore (tuple w) (tuple x)) (sym e) b) in one_way (tuple z) (tuple z) back back))
                (λ (behind : Contains zs y). absurd (one_way (tuple y) (tuple x) b (subst (λ w. IsBefore (tuple w) (tuple y)) same (All-contains (λ y. IsBefore (tuple z) (tuple y)) zs y r.0 behind))))
                (here_or_behind z zs y c),
          )
      by false h k later =
          let found = later k in (
            found.0,
            Contains_behind z zs x found.1,
            λ y c b. ⊎_elim (λ (e : z ≡ y). subst (λ y. test y ≡ false) e h) (λ (behind : Contains zs y). found.2 y behind b) (here_or_behind z zs y c),
          )

  pub none_found : (test : X → Bool) (zs : List X) → find test zs ≡ None → (y : X) → Contains zs y → test y ≡ false
  none_found test [] e y h = absurd (omega (arith, h.1))
  none_found test (z ∷ zs) e y h = by (test z) refl e (none_found test zs)
    where
      by : (b : Bool) → test z ≡ b → cond b (Some z) (find test zs) ≡ None → (find test zs ≡ None → (y : X) → Contains zs y → test y ≡ false) → test y ≡ false
      by true k l later = cc
      by false k l later = ⊎_elim (λ (same : z ≡ y). subst (λ y. test y ≡ false) same k) (λ (behind : Contains zs y). later l y behind) (here_or_behind z zs y h)

-- RISING TUPLES

abbrev pub number : ℕ → List ℕ
number n = n ∷ []

pub range_rises : (a n : ℕ) → Rises number (range_with_len a n)
range_rises a zero = tt
range_rises a (suc n) = (range_all (λ i. IsBefore (a ∷ []) (i ∷ [])) (a + 1) n (λ i low high. inl (omega (arith, low))), range_rises (a + 1) n)

module _ {X : Type 0} (tuple : X → List ℕ) where
  -- a tuple with one more number
  abbrev pub longer : X × ℕ → List ℕ
  longer p = tuple p.0 ++ p.1 ∷ []

  row_rises : (x : X) (ys : List ℕ) → Rises number ys → Rises longer (map (λ y. (x, y)) ys)
  row_rises x [] h = tt
  row_rises x (y ∷ ys) h = (
    All-map (λ p. IsBefore (longer (x, y)) (longer p)) (λ z. (x, z)) ys (All-weaker (λ z. IsBefore (number y) (number z)) (λ z. IsBefore (longer (x, y)) (longer (x, z))) (λ z b. before_behind (tuple x) (number y) (number z) b) ys h.0),
    row_rises x ys h.1,
  )

  pub rows_rise : (xs : List X) (ys : List ℕ) → Rises tuple xs → Rises number ys → Rises longer (rows xs ys)
  rows_rise [] ys h k = tt
  rows_rise (x ∷ xs) ys h k =
      rises_append longer (map (λ y. (x, y)) ys) (rows xs ys) (row_rises x ys k) (rows_rise xs ys h.1 k)
      (All-map (λ p. All (λ q. IsBefore (longer p) (longer q)) (rows xs ys)) (λ y. (x, y)) ys
      (All-weaker (Contains ys) (λ y. All (λ q. IsBefore (longer (x, y)) (longer q)) (rows xs ys))
      (λ y here. All-weaker (λ q. IsBefore (tuple x) (tuple q.0) × Contains ys q.1) (λ q. IsBefore (longer (x, y)) (longer q)) (λ q b. before_longer (tuple x) (tuple q.0) (number y) (number q.1) b.0) (rows xs ys)
      (All-rows (λ z. IsBefore (tuple x) (tuple z)) (Contains ys) xs ys h.0 (All-contains_itself ys))) ys (All-contains_itself ys)))
