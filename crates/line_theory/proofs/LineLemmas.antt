-- How a text is split.
use Rattle.std.proofs.Common.{◌≡◌, ℕ, zero, suc, ◌+◌, ◌-◌, ◌<◌, ◌≤◌, Bool, true, false, cond, ◌&&◌, List, [], ◌∷◌, ◌++◌, length, take, drop, refl, sym, ap, ◌∙◌, arith, add-one, length-drop}
use Rattle.std.specs.Prelude.{◌==◌, not, if◌then◌else◌}
use Rattle.std.specs.List.{prefix_len, list_all, flat_map}
use Rattle.std.proofs.lemmas.Bool.{and_parts, and_from, cases_Bool}
use Rattle.std.proofs.lemmas.Bool.Decides.{nat_tests}
use Rattle.std.proofs.lemmas.List.{take_all}
use Rattle.std.proofs.lemmas.List.Folds.{list_all-append}
use Rattle.line_theory.specs.Lines.{IsSplit, before_first, lacks, lines_of}

-- ** what lacks a byte

pub lacks_append : (b : ℕ) (xs ys : List ℕ) → lacks b xs ≡ true → lacks b ys ≡ true → lacks b (xs ++ ys) ≡ true
lacks_append b xs ys h k = list_all-append (λ x. not (x == b)) xs ys ∙ and_from (lacks b xs) (lacks b ys) h k

not_true : (t : Bool) → not t ≡ true → t ≡ false
not_true true e = cc
not_true false e = refl

same_byte : (x b : ℕ) → (x == b) ≡ true → x ≡ b
same_byte x b h = grind (arith, nat_tests, h)

itself : (b : ℕ) → (b == b) ≡ true
itself b = grind (arith, nat_tests)

-- ** the first such byte

module _ (b : ℕ) where
  other : ℕ → Bool
  other = λ x. not (x == b)

  pub front_lacks : (bs : List ℕ) → lacks b (take (prefix_len (λ x. not (x == b)) bs) bs) ≡ true
  front_lacks [] = refl
  front_lacks (c ∷ bs) = go (not (c == b)) refl (front_lacks bs)
    where
      go : (t : Bool) → not (c == b) ≡ t → lacks b (take (prefix_len (λ x. not (x == b)) bs) bs) ≡ true → lacks b (take (cond t (1 + prefix_len (λ x. not (x == b)) bs) 0) (c ∷ bs)) ≡ true
      go true e h =
          let s : 1 + prefix_len (λ x. not (x == b)) bs ≡ suc (prefix_len (λ x. not (x == b)) bs) = omega arith in
          rw (s, e) h
      go false e h = refl

  pub whole_at : (bs : List ℕ) → prefix_len (λ x. not (x == b)) bs < length bs → bs ≡ take (prefix_len (λ x. not (x == b)) bs) bs ++ b ∷ drop (suc (prefix_len (λ x. not (x == b)) bs)) bs
  whole_at [] h = absurd (omega arith)
  whole_at (c ∷ bs) h = go (λ k. whole_at bs k) (not (c == b)) refl h
    where
      go : (prefix_len (λ x. not (x == b)) bs < length bs → bs ≡ take (prefix_len (λ x. not (x == b)) bs) bs ++ b ∷ drop (suc (prefix_len (λ x. not (x == b)) bs)) bs) → (t : Bool) → not (c == b) ≡ t → cond t (1 + prefix_len (λ x. not (x == b)) bs) 0 < suc (length bs)
          → c ∷ bs ≡ take (cond t (1 + prefix_len (λ x. not (x == b)) bs) 0) (c ∷ bs) ++ b ∷ drop (suc (cond t (1 + prefix_len (λ x. not (x == b)) bs) 0)) (c ∷ bs)
      go at true e h =
          let s : 1 + prefix_len (λ x. not (x == b)) bs ≡ suc (prefix_len (λ x. not (x == b)) bs) = omega arith in
          let rest : bs ≡ take (prefix_len (λ x. not (x == b)) bs) bs ++ b ∷ drop (suc (prefix_len (λ x. not (x == b)) bs)) bs = at (omega arith) in
          rw s (ap (λ (xs : List ℕ). c ∷ xs) rest)
      go at false e h = ap (λ (x : ℕ). x ∷ bs) (same_byte c b (turned (c == b) e))
        where
          turned : (t : Bool) → not t ≡ false → t ≡ true
          turned true e = refl
          turned false e = cc

  -- a text is split in one way
  pub split_once : (xs ys vs ws : List ℕ) → lacks b xs ≡ true → lacks b vs ≡ true → xs ++ b ∷ ys ≡ vs ++ b ∷ ws → (xs ≡ vs) × (ys ≡ ws)
  split_once [] ys [] ws h k e = (refl, cc)
  split_once [] ys (v ∷ vs) ws h k e =
      let parts = and_parts (not (v == b)) (lacks b vs) k in
      let same : b ≡ v = cc in
      absurd (differs v (not_true (v == b) parts.0) (sym same))
    where
      differs : (v : ℕ) → (v == b) ≡ false → v ≡ b → ⊥
      differs v f e = let t : (v == b) ≡ true = rw e (itself b) in cc
  split_once (x ∷ xs) ys [] ws h k e =
      let parts = and_parts (not (x == b)) (lacks b xs) h in
      let same : x ≡ b = cc in
      absurd (differs x (not_true (x == b) parts.0) same)
    where
      differs : (v : ℕ) → (v == b) ≡ false → v ≡ b → ⊥
      differs v f e = let t : (v == b) ≡ true = rw e (itself b) in cc
  split_once (x ∷ xs) ys (v ∷ vs) ws h k e =
      let first : x ≡ v = cc in
      let more : xs ++ b ∷ ys ≡ vs ++ b ∷ ws = cc in
      let rest = split_once xs ys vs ws (and_parts (not (x == b)) (lacks b xs) h).1 (and_parts (not (v == b)) (lacks b vs) k).1 more in
      (λ i. first i ∷ rest.0 i, rest.1)

  pub none_within : (xs ys : List ℕ) → lacks b (xs ++ b ∷ ys) ≡ true → ⊥
  none_within [] ys h = let parts = and_parts (not (b == b)) (lacks b ys) h in let f : (b == b) ≡ false = not_true (b == b) parts.0 in let t : (b == b) ≡ true = itself b in cc
  none_within (x ∷ xs) ys h = none_within xs ys (and_parts (not (x == b)) (lacks b (xs ++ b ∷ ys)) h).1

-- ** what the split gives

pub split_found : (b : ℕ) (bs : List ℕ) (n : ℕ) → n ≡ prefix_len (λ x. not (x == b)) bs → n ≤ length bs → (n ≡ length bs → ⊥) → IsSplit b bs (take n bs) (take (length bs - (n + 1)) (drop (n + 1) bs))
split_found b bs n e within short =
    let all : take (length bs - (n + 1)) (drop (n + 1) bs) ≡ drop (suc n) bs = rw add-one (take_all (length bs - suc n) (drop (suc n) bs) (omega (arith, length-drop (suc n) bs))) in
    let lt : prefix_len (λ x. not (x == b)) bs < length bs = omega arith in
    rw all record {
      first = rw e (front_lacks b bs);
      whole = rw e (whole_at b bs lt);
    }

pub nothing_found : (b : ℕ) (bs : List ℕ) (n : ℕ) → n ≡ prefix_len (λ x. not (x == b)) bs → n ≡ length bs → lacks b bs ≡ true
nothing_found b bs n e all =
    let same : take (prefix_len (λ x. not (x == b)) bs) bs ≡ bs = rw (sym e) (take_all n bs (omega arith)) in
    ap (lacks b) (sym same) ∙ front_lacks b bs

-- ** lines

-- a line, and those behind it
pub line_before : (body rest : List ℕ) → lacks 10 body ≡ true → lines_of (body ++ 10 ∷ rest) ≡ (body ++ 10 ∷ []) ∷ lines_of rest
line_before [] rest h = refl
line_before (b ∷ body) rest h =
    let parts = and_parts (not (b == 10)) (lacks 10 body) h in
    let none : (b == 10) ≡ false = not_true (b == 10) parts.0 in
    let more : lines_of (body ++ 10 ∷ rest) ≡ (body ++ 10 ∷ []) ∷ lines_of rest = line_before body rest parts.1 in
    rw (none, more) refl

-- a last line without line feed
pub line_alone : (b : ℕ) (bs : List ℕ) → lacks 10 (b ∷ bs) ≡ true → lines_of (b ∷ bs) ≡ (b ∷ bs) ∷ []
line_alone b [] h =
    let parts = and_parts (not (b == 10)) true h in
    let none : (b == 10) ≡ false = not_true (b == 10) parts.0 in rw none refl
line_alone b (c ∷ bs) h =
    let parts = and_parts (not (b == 10)) (lacks 10 (c ∷ bs)) h in
    let none : (b == 10) ≡ false = not_true (b == 10) parts.0 in
    let more : lines_of (c ∷ bs) ≡ (c ∷ bs) ∷ [] = line_alone c bs parts.1 in
    rw (none, more) refl

before_first_joined : (b : ℕ) (ls : List (List ℕ)) → flat_map (λ l. l) (before_first b ls) ≡ b ∷ flat_map (λ l. l) ls
before_first_joined b [] = refl
before_first_joined b (l ∷ ls) = refl

-- lines put together are the text
pub joined : (bs : List ℕ) → flat_map (λ l. l) (lines_of bs) ≡ bs
joined [] = refl
joined (b ∷ bs) = go (joined bs) (b == 10) refl
  where
    go : flat_map (λ l. l) (lines_of bs) ≡ bs → (t : Bool) → (b == 10) ≡ t → flat_map (λ l. l) (if t then (10 ∷ []) ∷ lines_of bs else before_first b (lines_of bs)) ≡ b ∷ bs
    go more true e = let same : b ≡ 10 = same_byte b 10 e in λ i. sym same i ∷ more i
    go more false e = before_first_joined b (lines_of bs) ∙ ap (λ (xs : List ℕ). b ∷ xs) more
