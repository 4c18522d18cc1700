-- The first of the candidates is the first of all.
use Rattle.std.proofs.Common.{◌≡◌, ℕ, ◌+◌, ◌<◌, Bool, true, false, cond, suc, List, [], ◌∷◌, Option, Some, None, length, get_or, drop, find, refl, sym, ap, ◌∙◌, arith}
use Rattle.std.specs.Prelude.{is_some, slice_get, option_and_then}
use Rattle.std.specs.List.{position_from}
use Rattle.std.specs.Option.{option_or}
use Rattle.flow_match.specs.Index.{numbers_where}
use Rattle.flow_match.specs.Matched.{first_some}
use Rattle.flow_match.specs.inner.Among.{first_among}
use Rattle.flow_match.proofs.Onto.{from_here}

-- -- numbers of those that pass a test

-- -- the first of those with some numbers

among_rest : {X Y : Type 0} (f : ℕ → X → Option Y) (test : X → Bool) (all xs : List X) (n : ℕ) → ((i : ℕ) (x : X) → test x ≡ false → f i x ≡ None)
    → ((i : ℕ) → slice_get all (n + i) ≡ slice_get xs i) → first_among f all (numbers_where test n xs) ≡ first_some f n xs
among_rest f test all [] n pass same = refl
among_rest {X} f test all (x ∷ xs) n pass same = go (test x) refl (among_rest f test all xs (n + 1) pass (λ i. ap (slice_get all) (omega arith) ∙ same (suc i)))
  where
    here : slice_get all n ≡ Some x
    here = ap (slice_get all) (omega arith) ∙ same 0

    go : (b : Bool) → test x ≡ b → first_among f all (numbers_where test (n + 1) xs) ≡ first_some f (n + 1) xs
        → first_among f all (cond b (n ∷ numbers_where test (n + 1) xs) (numbers_where test (n + 1) xs)) ≡ option_or (f n x) (first_some f (n + 1) xs)
    go true e rest = ap (λ (o : Option X). option_or (option_and_then (f n) o) (first_among f all (numbers_where test (n + 1) xs))) here ∙ ap (option_or (f n x)) rest
    go false e rest = rest ∙ ap (λ o. option_or o (first_some f (n + 1) xs)) (sym (pass n x e))

-- the first of those that pass a test is the first of all, where the others give nothing
pub among_all : {X Y : Type 0} (f : ℕ → X → Option Y) (test : X → Bool) (xs : List X) → ((i : ℕ) (x : X) → test x ≡ false → f i x ≡ None)
    → first_among f xs (numbers_where test 0 xs) ≡ first_some f 0 xs
among_all f test xs pass = among_rest f test xs xs 0 pass (λ i. ap (slice_get xs) (omega arith))

among_next : {X Y : Type 0} (f : ℕ → X → Option Y) (xs : List X) (numbers : List ℕ) (i : ℕ) → i < length numbers
    → first_among f xs (drop i numbers) ≡ option_or (option_and_then (f (get_or numbers i 0)) (slice_get xs (get_or numbers i 0))) (first_among f xs (drop (i + 1) numbers))
among_next f xs numbers i h = ap (first_among f xs) (from_here numbers i 0 h)

first_of_two : {Y : Type 0} (a b : Option Y) → is_some a ≡ true → option_or a b ≡ a
first_of_two (Some y) b h = refl
first_of_two None b h = cc

-- the one with this number gives nothing
pub among_later : {X Y : Type 0} (f : ℕ → X → Option Y) (xs : List X) (numbers : List ℕ) (i : ℕ) → i < length numbers
    → option_and_then (f (get_or numbers i 0)) (slice_get xs (get_or numbers i 0)) ≡ None → first_among f xs (drop (i + 1) numbers) ≡ first_among f xs (drop i numbers)
among_later f xs numbers i h nothing = sym (among_next f xs numbers i h ∙ ap (λ o. option_or o (first_among f xs (drop (i + 1) numbers))) nothing)

-- the one with this number gives something
pub among_now : {X Y : Type 0} (f : ℕ → X → Option Y) (xs : List X) (numbers : List ℕ) (i : ℕ) → i < length numbers
    → is_some (option_and_then (f (get_or numbers i 0)) (slice_get xs (get_or numbers i 0))) ≡ true
    → first_among f xs (drop i numbers) ≡ option_and_then (f (get_or numbers i 0)) (slice_get xs (get_or numbers i 0))
among_now f xs numbers i h there =
    among_next f xs numbers i h ∙ first_of_two (option_and_then (f (get_or numbers i 0)) (slice_get xs (get_or numbers i 0))) (first_among f xs (drop (i + 1) numbers)) there

-- -- the same of tests

pub find_some : {X : Type 0} (test : X → Bool) (xs : List X) (n : ℕ) → first_some (λ i x. cond (test x) (Some x) None) n xs ≡ find test xs
find_some test [] n = refl
find_some {X} test (x ∷ xs) n = go (test x) (find_some test xs (n + 1))
  where
    go : (b : Bool) → first_some (λ i x. cond (test x) (Some x) None) (n + 1) xs ≡ find test xs
        → option_or (cond b (Some x) None) (first_some (λ i x. cond (test x) (Some x) None) (n + 1) xs) ≡ cond b (Some x) (find test xs)
    go true e = refl
    go false e = e

pub position_some : {X : Type 0} (test : X → Bool) (xs : List X) (n : ℕ) → first_some (λ i x. cond (test x) (Some i) None) n xs ≡ position_from test n xs
position_some test [] n = refl
position_some {X} test (x ∷ xs) n = go (test x) (position_some test xs (n + 1))
  where
    go : (b : Bool) → first_some (λ i x. cond (test x) (Some i) None) (n + 1) xs ≡ position_from test (n + 1) xs
        → option_or (cond b (Some n) None) (first_some (λ i x. cond (test x) (Some i) None) (n + 1) xs) ≡ cond b (Some n) (position_from test (n + 1) xs)
    go true e = refl
    go false e = e
