-- Fronts of lists, and tables of texts.
use Rattle.std.proofs.Common.{◌≡◌, ℕ, zero, suc, ◌≤◌, Bool, true, false, cond, ◌&&◌, ◌||◌, List, [], ◌∷◌, ◌++◌, length, take, drop, Some, refl, sym, ap, ◌∙◌, arith, inl, inr, one-add}
use Rattle.std.specs.Prelude.{◌⊎◌, find, nat_eq, nat_le, not, bytes_eq, Contains}
use Rattle.std.specs.List.{starts_with, list_all, list_any, prefix_len}
use Rattle.std.proofs.lemmas.List.{take_at}
use Rattle.std.proofs.lemmas.Bool.{and_parts, cases_Bool, cases_lt, or_cases, or_left, or_right, not_from_true}
use Rattle.std.proofs.lemmas.Bool.Decides.{Decides-eqb, nat_tests}
use Rattle.std.proofs.lemmas.Slice.Eq.{starts_is, bytes_eq-Decides}

-- an outcome of a choice
pub chosen : {X : Type 0} (t : Bool) (x y z : X) → (cond t x y) ≡ z → ((t ≡ true) × (x ≡ z)) ⊎ ((t ≡ false) × (y ≡ z))
chosen true x y z e = inl (refl, e)
chosen false x y z e = inr (refl, e)

pub starts : (bytes s rest : List ℕ) → bytes ≡ s ++ rest → starts_with nat_eq bytes s ≡ true
starts bytes s rest e = (starts_is Decides-eqb bytes s (starts_with nat_eq bytes s) refl).1 rest e

pub front : (bytes s : List ℕ) → starts_with nat_eq bytes s ≡ true → bytes ≡ s ++ drop (length s) bytes
front bytes s h = (starts_is Decides-eqb bytes s (starts_with nat_eq bytes s) refl).0 h

-- two fronts of one list are equal where they are of one length
pub same_front : {X : Type 0} (a b x y : List X) → a ++ x ≡ b ++ y → length a ≡ length b → a ≡ b
same_front a b x y e l = sym (take_at a x (length a) refl) ∙ ap (take (length a)) e ∙ take_at b y (length a) (sym l)

-- and the shorter one is a front of the other
pub inner_front : {X : Type 0} (a b x y : List X) → a ++ x ≡ b ++ y → length a ≤ length b → b ≡ a ++ drop (length a) b
inner_front [] b x y e l = refl
inner_front (c ∷ a) [] x y e l = absurd (omega arith)
inner_front (c ∷ a) (d ∷ b) x y e l =
    let tails : a ++ x ≡ b ++ y = cc in
    let heads : c ≡ d = cc in
    let within : length a ≤ length b = omega arith in
    let rest = inner_front a b x y tails within in
    rw heads (ap (λ zs. d ∷ zs) rest)

-- what a test says of each element
pub all_at : {X : Type 0} (p : X → Bool) (xs : List X) (x : X) → list_all p xs ≡ true → Contains xs x → p x ≡ true
all_at p [] x h (k, l, e) = absurd (omega arith)
all_at p (y ∷ ys) x h (zero, l, e) = let parts = and_parts (p y) (list_all p ys) h in rw (← e) parts.0
all_at p (y ∷ ys) x h (suc k, l, e) = let parts = and_parts (p y) (list_all p ys) h in all_at p ys x parts.1 (k, omega arith, e)

-- a text of a table that begins with an earlier one is no longer
unfoldable pub is_longest_first : List (List ℕ) → Bool
is_longest_first [] = true
is_longest_first (x ∷ xs) = list_all (λ y. not (starts_with nat_eq y x) || nat_le (length y) (length x)) xs && is_longest_first xs

-- such a text is no longer where both are fronts of the same bytes
one_longest : (x y bytes rest : List ℕ) → starts_with nat_eq bytes x ≡ true → bytes ≡ y ++ rest → (not (starts_with nat_eq y x) || nat_le (length y) (length x)) ≡ true → length y ≤ length x
one_longest x y bytes rest h b ok =
    elim (cases_lt (length x) (length y)) [
      | inl more ↦ (let less : length x ≤ length y = omega arith in
          let e : x ++ drop (length x) bytes ≡ y ++ rest = sym (front bytes x h) ∙ b in
          let begins : starts_with nat_eq y x ≡ true = starts y x (drop (length x) y) (inner_front x y (drop (length x) bytes) rest e less) in
          elim (or_cases (not (starts_with nat_eq y x)) (nat_le (length y) (length x)) ok) [ inl fails ↦ cc (not_from_true _ begins) | inr le ↦ grind (arith, nat_tests) ])
      | inr le ↦ le
    ]

pub Contains_cases : {X : Type 0} (x y : X) (xs : List X) → Contains (x ∷ xs) y → (x ≡ y) ⊎ Contains xs y
Contains_cases x y xs (zero, l, e) = inl e
Contains_cases x y xs (suc k, l, e) = inr (k, omega arith, e)

-- the first text of such a table that bytes begin with is the longest
pub longest_found : (table : List (List ℕ)) (bytes s other rest : List ℕ) → is_longest_first table ≡ true
    → find (λ t. starts_with nat_eq bytes t) table ≡ Some s → Contains table other → bytes ≡ other ++ rest → length other ≤ length s
unfolding is_longest_first
longest_found [] bytes s other rest ok f (k, l, e) b = absurd (omega arith)
longest_found (x ∷ xs) bytes s other rest ok f c b =
    let parts = and_parts (list_all (λ y. not (starts_with nat_eq y x) || nat_le (length y) (length x)) xs) (is_longest_first xs) ok in
    elim (chosen (starts_with nat_eq bytes x) (Some x) (find (λ t. starts_with nat_eq bytes t) xs) (Some s) f) [
      | inl h ↦ (let same : x ≡ s = cc in
          elim (Contains_cases x other xs c) [
            | inl e ↦ rw (← e, ← same) (omega arith)
            | inr later ↦ rw (← same) (one_longest x other bytes rest h.0 b (all_at (λ y. not (starts_with nat_eq y x) || nat_le (length y) (length x)) xs other parts.0 later))
          ])
      | inr h ↦ elim (Contains_cases x other xs c) [
        | inl e ↦ absurd (let begins : starts_with nat_eq bytes other ≡ true = starts bytes other rest b in let lacks : starts_with nat_eq bytes other ≡ false = rw (← e) h.0 in cc)
        | inr later ↦ longest_found xs bytes s other rest parts.1 h.1 later b
      ]
    ]

-- one of the texts that bytes begin with is found
pub some_found : (table : List (List ℕ)) (bytes other rest : List ℕ) → Contains table other → bytes ≡ other ++ rest → (s : List ℕ) × (find (λ t. starts_with nat_eq bytes t) table ≡ Some s)
some_found [] bytes other rest (k, l, e) b = absurd (omega arith)
some_found (x ∷ xs) bytes other rest c b = elim (cases_Bool (starts_with nat_eq bytes x)) [
  | inl holds ↦ (x, rw holds refl)
  | inr fails ↦ elim (Contains_cases x other xs c) [
    | inl e ↦ absurd (let begins : starts_with nat_eq bytes other ≡ true = starts bytes other rest b in let lacks : starts_with nat_eq bytes other ≡ false = rw (← e) fails in cc)
    | inr later ↦ (let found = some_found xs bytes other rest later b in (found.0, rw fails found.1))
  ]
]

-- what is found is a text of the table that the bytes begin with
pub is_found : (table : List (List ℕ)) (bytes s : List ℕ) → find (λ t. starts_with nat_eq bytes t) table ≡ Some s → Contains table s × (starts_with nat_eq bytes s ≡ true)
is_found [] bytes s f = cc
is_found (x ∷ xs) bytes s f = elim (chosen (starts_with nat_eq bytes x) (Some x) (find (λ t. starts_with nat_eq bytes t) xs) (Some s) f) [
  | inl h ↦ (let same : x ≡ s = cc in rw (← same) ((zero, omega arith, refl), h.0))
  | inr h ↦ (let later = is_found xs bytes s h.1 in ((suc later.0.0, omega (arith, later.0.1), later.0.2), later.1))
]

-- a front of which each element passes, with a next element that doesn't
pub prefix_of_passing : (p : ℕ → Bool) (xs ys : List ℕ) → list_all p xs ≡ true → length xs ≤ prefix_len p (xs ++ ys)
prefix_of_passing p [] ys h = omega arith
prefix_of_passing p (x ∷ xs) ys h = let parts = and_parts (p x) (list_all p xs) h in rw parts.0 (let less = prefix_of_passing p xs ys parts.1 in omega arith)

pub list_all_prefix : (p : ℕ → Bool) (xs : List ℕ) → list_all p (take (prefix_len p xs) xs) ≡ true
list_all_prefix p [] = refl
list_all_prefix p (x ∷ xs) = elim (cases_Bool (p x)) [
  | inl holds ↦ rw holds (rw one-add (rw holds (list_all_prefix p xs)))
  | inr fails ↦ rw fails refl
]

-- a text of a table, by a test
pub any_found : (table : List (List ℕ)) (text : List ℕ) → list_any (λ w. bytes_eq w text) table ≡ true → Contains table text
any_found [] text h = cc
any_found (x ∷ xs) text h = elim (or_cases (bytes_eq x text) (list_any (λ w. bytes_eq w text) xs) h) [
  | inl here ↦ (let e : x ≡ text = (bytes_eq-Decides x text).0 here in (zero, omega arith, e))
  | inr later ↦ (let c = any_found xs text later in (suc c.0, omega (arith, c.1), c.2))
]

pub found_any : (table : List (List ℕ)) (text : List ℕ) → Contains table text → list_any (λ w. bytes_eq w text) table ≡ true
found_any [] text (k, l, e) = absurd (omega arith)
found_any (x ∷ xs) text c = elim (Contains_cases x text xs c) [
  | inl e ↦ or_left (bytes_eq x text) (list_any (λ w. bytes_eq w text) xs) ((bytes_eq-Decides x text).1 e)
  | inr later ↦ or_right (bytes_eq x text) (list_any (λ w. bytes_eq w text) xs) (found_any xs text later)
]

-- nothing, or an element in front that doesn't pass
abbrev pub Stops : (ℕ → Bool) → List ℕ → Type 0
Stops p [] = Unit {0}
Stops p (x ∷ xs) = p x ≡ false

pub stops_after : (p : ℕ → Bool) (xs : List ℕ) → Stops p (drop (prefix_len p xs) xs)
stops_after p [] = tt
stops_after p (x ∷ xs) = elim (cases_Bool (p x)) [
  | inl holds ↦ rw holds (rw one-add (stops_after p xs))
  | inr fails ↦ rw fails fails
]

-- a passing front behind which none passes is the whole front
pub prefix_is : (p : ℕ → Bool) (xs ys : List ℕ) → list_all p xs ≡ true → Stops p ys → prefix_len p (xs ++ ys) ≡ length xs
prefix_is p [] [] h s = refl
prefix_is p [] (y ∷ ys) h s = rw s refl
prefix_is p (x ∷ xs) ys h s = let parts = and_parts (p x) (list_all p xs) h in rw (parts.0, prefix_is p xs ys parts.1 s) (one-add (length xs))
