-- A part of a list is turned: its first items are put behind the others.
use Rattle.std.proofs.Common.{arith, ◌≡◌, ℕ, ◌+◌, ◌-◌, ◌≤◌, List, ◌++◌, length, take, drop, map, sym, ap, ◌∙◌}
use Rattle.std.proofs.Math.ListN.{drop_of_length-le}
use Rattle.std.proofs.Math.Seq.{drop-append_seam, drop-append-add, take-append_seam, take-length}
use Rattle.std.proofs.lemmas.List.{append-nil, append_assoc, drop-map, length-append, map-append, take-map}
use Rattle.flow_syntax.specs.declared.types.ExprType.{ExprType}
use Rattle.flow_syntax.specs.Types.{Typing, typing_of}
use Rattle.check_exprs.specs.inner.Noted.{put_behind}

module _ (front back turned : List ExprType) where
  -- nothing is left behind what was turned
  whole : length turned ≡ length back → take (length (front ++ back)) (front ++ turned ++ drop (length (front ++ turned)) (front ++ back)) ≡ front ++ turned
  whole same =
      ap (λ (xs : List ExprType). take (length (front ++ back)) (front ++ turned ++ xs)) (drop_of_length-le (front ++ back) within)
      ∙ ap (take (length (front ++ back))) (append-nil (front ++ turned)) ∙ ap (λ n. take n (front ++ turned)) (sym as_long) ∙ take-length (front ++ turned)
    where
      as_long : length (front ++ turned) ≡ length (front ++ back)
      as_long = length-append front turned ∙ ap (λ n. length front + n) same ∙ sym (length-append front back)

      at_most : (m n : ℕ) → n ≡ m → m ≤ n
      at_most m n e = omega arith

      within : length (front ++ back) ≤ length (front ++ turned)
      within = at_most (length (front ++ back)) (length (front ++ turned)) as_long

-- the items of the whole list by those of its back
parts : (front back : List ExprType) (n : ℕ) → take (length front) (front ++ back) ++ drop (length front + n) (front ++ back) ++ take n (drop (length front) (front ++ back)) ≡ front ++ (drop n back ++ take n back)
parts front back n =
    ap (λ (xs : List ExprType). xs ++ drop (length front + n) (front ++ back) ++ take n (drop (length front) (front ++ back))) (take-append_seam front back)
    ∙ ap (λ (xs : List ExprType). front ++ xs ++ take n (drop (length front) (front ++ back))) (drop-append-add front back n)
    ∙ ap (λ (xs : List ExprType). front ++ drop n back ++ take n xs) (drop-append_seam front back) ∙ append_assoc front (drop n back) (take n back)

-- the types of a list of which some items are put behind others
mapped : (start middle : ℕ) (xs : List ExprType) → map typing_of (take start xs ++ drop middle xs ++ take (middle - start) (drop start xs)) ≡ put_behind start middle (map typing_of xs)
mapped start middle xs =
    map-append typing_of (take start xs ++ drop middle xs) (take (middle - start) (drop start xs))
    ∙ ap (λ (ts : List Typing). ts ++ map typing_of (take (middle - start) (drop start xs))) (map-append typing_of (take start xs) (drop middle xs))
    ∙ ap (λ (ts : List Typing). ts ++ map typing_of (drop middle xs) ++ map typing_of (take (middle - start) (drop start xs))) (sym (take-map typing_of start xs))
    ∙ ap (λ (ts : List Typing). take start (map typing_of xs) ++ ts ++ map typing_of (take (middle - start) (drop start xs))) (sym (drop-map typing_of middle xs))
    ∙ ap (λ (ts : List Typing). take start (map typing_of xs) ++ drop middle (map typing_of xs) ++ ts) (sym (take-map typing_of (middle - start) (drop start xs)) ∙ ap (take (middle - start)) (sym (drop-map typing_of start xs)))

pub turned_by : (xs front back turned : List ExprType) (len start middle : ℕ) → len ≡ length xs → front ++ back ≡ xs → length front ≡ start → start ≤ middle → turned ≡ drop (middle - start) back ++ take (middle - start) back → length turned ≡ length back
    → map typing_of (take len (front ++ turned ++ drop (length (front ++ turned)) xs)) ≡ put_behind start middle (map typing_of xs)
turned_by xs front back turned len start middle counted is at ordered turns same =
    ap (λ n. map typing_of (take n (front ++ turned ++ drop (length (front ++ turned)) xs))) counted
    ∙ ap (λ (ys : List ExprType). map typing_of (take (length ys) (front ++ turned ++ drop (length (front ++ turned)) ys))) (sym is)
    ∙ ap (map typing_of) (whole front back turned same ∙ ap (λ (ys : List ExprType). front ++ ys) turns ∙ sym (parts front back (middle - start))
    ∙ ap (λ n. take (length front) (front ++ back) ++ drop n (front ++ back) ++ take (middle - start) (drop (length front) (front ++ back))) (behind start middle ordered (length front) at)
    ∙ ap (λ n. take n (front ++ back) ++ drop middle (front ++ back) ++ take (middle - start) (drop n (front ++ back))) at
    ∙ ap (λ (ys : List ExprType). take start ys ++ drop middle ys ++ take (middle - start) (drop start ys)) is)
    ∙ mapped start middle xs
  where
    behind : (s m : ℕ) → s ≤ m → (n : ℕ) → n ≡ s → n + (m - s) ≡ m
    behind s m o n e = omega arith
