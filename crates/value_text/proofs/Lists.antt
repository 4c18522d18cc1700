-- Reading a list of things that stand up to a closing byte, with commas between them.
use Rattle.std.proofs.Common.{◌≡◌, ℕ, zero, suc, ◌<◌, ◌≤◌, true, false, List, [], ◌∷◌, ◌++◌, length, drop, map, Some, None, Option, refl, sym, ap, ◌∙◌, subst, arith, inl, inr, append_assoc, length-append}
use Rattle.std.specs.Prelude.{All, codes, if◌then◌else◌, ◌==◌}
use Rattle.std.proofs.lemmas.List.Elements.{All-cons, All-head, All-nil, All-tail}
use Rattle.std.specs.List.{flat_map}
use Rattle.std.proofs.lemmas.Bool.{both_ways, cases_Bool}
use Rattle.flow_syntax.proofs.Fronts.{chosen}
use Rattle.value_text.specs.Texts.{behind_comma, listed}
use Rattle.value_text.specs.inner.Reading.{Reading, ◌>>=◌, all_listed, begins_with, behind, listed_part, next_part, until}
use Rattle.value_text.proofs.Told.{both_are, bound, kept, one_is}
use Rattle.value_text.proofs.Tokens.{EndsToken, behind_is, behind_read, is_first}
use Rattle.value_text.proofs.Turns.{closed, end, listed_read, no_turns, turn, turned}

-- each thing of which P holds is read where its text stands in front of what ends a token
abbrev pub Reads : {X : Type 0} → (X → Type 0) → (X → List ℕ) → (List ℕ → Reading X) → Type 0
Reads {X} P text read = (x : X) (rest : List ℕ) → P x → EndsToken rest → read (text x ++ rest) ≡ Some (x, rest)

-- what is read is a thing of which P holds, and its text stands in front
abbrev pub IsRead : {X : Type 0} → (X → Type 0) → (X → List ℕ) → (List ℕ → Reading X) → Type 0
IsRead {X} P text read = (bs rest : List ℕ) (x : X) → read bs ≡ Some (x, rest) → P x × (bs ≡ text x ++ rest)

-- what closes a list: a byte that ends a token, with which none of its things begins
pub record Closes {X : Type 0} (closing : ℕ) (read : List ℕ → Reading X) : Type 0 where
  pub itself : (closing == closing) ≡ true
  pub ends : (rest : List ℕ) → EndsToken (closing ∷ rest)
  pub comma : (rest : List ℕ) → begins_with closing (codes ", " ++ rest) ≡ false
  pub stops : (bs : List ℕ) → begins_with closing bs ≡ true → read bs ≡ None
  pub empty : read [] ≡ None

no_some : {X : Type 0} (x : X) (o : Option X) → o ≡ None → o ≡ Some x → ⊥
no_some x o e h = cc

module _ {X : Type 0} (P : X → Type 0) (text : X → List ℕ) (read : List ℕ → Reading X) (reads : Reads P text read) (closing : ℕ) (closes : Closes closing read) where
  -- what follows the first thing
  abbrev tail : List X → List ℕ → List ℕ
  tail xs rest = flat_map behind_comma (map text xs) ++ closing ∷ rest

  abbrev inside : List X → List ℕ → List ℕ
  inside xs rest = listed (map text xs) ++ closing ∷ rest

  tail_ends : (xs : List X) (rest : List ℕ) → EndsToken (tail xs rest)
  tail_ends [] rest = closes.ends rest
  tail_ends (y ∷ ys) rest = refl

  tail_within : (xs : List X) (rest : List ℕ) → length (inside xs rest) ≤ length (tail xs rest)
  tail_within [] rest = omega arith
  tail_within (y ∷ ys) rest = omega arith

  not_empty : (x : X) (t : List ℕ) → read (t ++ []) ≡ Some (x, []) → 0 < length t
  not_empty x [] e = absurd (no_some (x, []) (read []) closes.empty e)
  not_empty x (c ∷ t) e = omega arith

  opens : (x : X) (xs : List X) (rest : List ℕ) → read (text x ++ tail xs rest) ≡ Some (x, tail xs rest) → begins_with closing (text x ++ tail xs rest) ≡ false
  opens x xs rest e = elim (cases_Bool (begins_with closing (text x ++ tail xs rest))) [
    | inl holds ↦ absurd (no_some (x, tail xs rest) (read (text x ++ tail xs rest)) (closes.stops (text x ++ tail xs rest) holds) e)
    | inr fails ↦ fails
  ]

  tail_parted : (xs : List X) (rest : List ℕ) → All P xs → next_part closing (tail xs rest) ≡ Some (inside xs rest)
  tail_parted [] rest h = rw closes.itself refl
  tail_parted (y ∷ ys) rest h =
      let no_end : begins_with closing (tail (y ∷ ys) rest) ≡ false = closes.comma (tail ys rest) in
      let next : inside (y ∷ ys) rest ≡ text y ++ tail ys rest = append_assoc (text y) (flat_map behind_comma (map text ys)) (closing ∷ rest) in
      let opened = opens y ys rest (reads y (tail ys rest) (All-head P y ys h) (tail_ends ys rest)) in
      let some : begins_with closing (inside (y ∷ ys) rest) ≡ false = ap (begins_with closing) next ∙ opened in
      rw (no_end, behind_read (codes ", ") (inside (y ∷ ys) rest), some) refl

  pub list_read : (xs : List X) (rest : List ℕ) → All P xs → all_listed closing read (inside xs rest) ≡ Some (xs, rest)
  list_read [] rest h = end closing (listed_part closing read) (closing ∷ rest) closes.itself
  list_read (x ∷ xs) rest h =
      let bs : List ℕ = text x ++ tail xs rest in
      let whole : inside (x ∷ xs) rest ≡ bs = append_assoc (text x) (flat_map behind_comma (map text xs)) (closing ∷ rest) in
      let first : read bs ≡ Some (x, tail xs rest) = reads x (tail xs rest) (All-head P x xs h) (tail_ends xs rest) in
      let some : 0 < length (text x) = not_empty x (text x) (reads x [] (All-head P x xs h) tt) in
      let less : length (inside xs rest) < length bs = omega (arith, some, tail_within xs rest, length-append (text x) (tail xs rest)) in
      let parted = listed_read closing read bs (tail xs rest) (inside xs rest) x first (tail_parted xs rest (All-tail P x xs h)) in
      let one = turn closing (listed_part closing read) bs (inside xs rest) x (opens x xs rest first) parted less in
      let more : all_listed closing read (inside xs rest) ≡ Some (xs, rest) = list_read xs rest (All-tail P x xs h) in
      ap (all_listed closing read) whole ∙ one ∙ ap (λ (o : Reading (List X)). o >>= λ ys. Some (x ∷ ys.0, ys.1)) more

-- ** what is told by what was read

module _ {X : Type 0} (P : X → Type 0) (text : X → List ℕ) (read : List ℕ → Reading X) (is_read : IsRead P text read) (closing : ℕ) (itself : (closing == closing) ≡ true) where
  abbrev tail_of : List X → List ℕ → List ℕ
  tail_of xs rest = flat_map behind_comma (map text xs) ++ closing ∷ rest

  abbrev inside_of : List X → List ℕ → List ℕ
  inside_of xs rest = listed (map text xs) ++ closing ∷ rest

  -- nothing stands before the closing byte
  none_before : (n : ℕ) (bs rest : List ℕ) (xs : List X) → begins_with closing bs ≡ true → until closing (listed_part closing read) n bs ≡ Some (xs, rest) → xs ≡ []
  none_before zero bs rest xs h e = absurd (no_turns closing (listed_part closing read) bs (xs, rest) e)
  none_before (suc n) bs rest xs h e = (both_are xs [] rest (drop 1 bs) (sym e ∙ closed closing (listed_part closing read) n bs h)).0

  -- what stands behind a thing, from what stands behind what parts it from the next
  parted_is : (u w rest : List ℕ) (xs : List X) → next_part closing u ≡ Some w → w ≡ inside_of xs rest → (begins_with closing w ≡ true → xs ≡ []) → u ≡ tail_of xs rest
  parted_is u w rest xs e is none = elim (chosen (begins_with closing u) (Some u) (behind (codes ", ") u >>= λ r. if begins_with closing r then None else Some r) (Some w) e) [
    | inl (h, same) ↦ (let s = one_is u w same in
        let empty = none (ap (begins_with closing) (sym s) ∙ h) in
        s ∙ is ∙ ap (λ (ys : List X). inside_of ys rest) empty ∙ ap (λ (ys : List X). tail_of ys rest) (sym empty))
    | inr (h, some) ↦ (let p = bound (behind (codes ", ") u) (λ r. if begins_with closing r then None else Some r) w some in
        let q = kept (begins_with closing p.0) (Some p.0) w p.2 in
        let s = one_is p.0 w q.1 in
        behind_is (codes ", ") u p.0 p.1 ∙ ap (λ (r : List ℕ). codes ", " ++ r) (s ∙ is) ∙ comma_before xs (ap (begins_with closing) (sym (s ∙ is)) ∙ q.0))
  ]
    where
      comma_before : (ys : List X) → begins_with closing (inside_of ys rest) ≡ false → codes ", " ++ inside_of ys rest ≡ tail_of ys rest
      comma_before [] f = absurd (both_ways (closing == closing) f itself)
      comma_before (y ∷ ys) f = refl

  until_is : (n : ℕ) (bs rest : List ℕ) (xs : List X) → until closing (listed_part closing read) n bs ≡ Some (xs, rest) → All P xs × (bs ≡ inside_of xs rest)
  until_is zero bs rest xs e = absurd (no_turns closing (listed_part closing read) bs (xs, rest) e)
  until_is (suc n) bs rest xs e = elim (turned closing (listed_part closing read) n bs rest xs e) [
    | inl ended ↦ (subst (All P) (sym ended.none) (All-nil P), is_first closing bs ended.begins ∙ ap (λ (cs : List ℕ). closing ∷ cs) ended.behind ∙ ap (λ (ys : List X). inside_of ys rest) (sym ended.none))
    | inr t ↦ (let p = bound (read bs) (λ x. next_part closing x.1 >>= λ r. Some (x.0, r)) (t.first, t.after) t.read_is in
        let q = bound (next_part closing p.0.1) (λ r. Some (p.0.0, r)) (t.first, t.after) p.2 in
        let s = both_are p.0.0 t.first q.0 t.after q.2 in
        let one = is_read bs p.0.1 p.0.0 p.1 in
        let more = until_is n t.after rest t.others t.more in
        let behind_first = parted_is p.0.1 t.after rest t.others (q.1 ∙ ap Some s.1) more.1 (λ h. none_before n t.after rest t.others h t.more) in
        let first_text : bs ≡ text t.first ++ tail_of t.others rest = one.1 ∙ (λ i. text (s.0 i) ++ behind_first i) in (
          subst (All P) t.whole (All-cons P t.first t.others (subst P s.0 one.0) more.0),
          first_text ∙ sym (append_assoc (text t.first) (flat_map behind_comma (map text t.others)) (closing ∷ rest)) ∙ ap (λ (ys : List X). inside_of ys rest) t.whole,
        ))
  ]

  pub list_is : (bs rest : List ℕ) (xs : List X) → all_listed closing read bs ≡ Some (xs, rest) → All P xs × (bs ≡ listed (map text xs) ++ closing ∷ rest)
  list_is bs rest xs e = until_is (suc (length bs)) bs rest xs e
