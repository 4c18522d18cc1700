-- Each element that has a text is read from it.
use Rattle.std.proofs.Common.{◌≡◌, ℕ, zero, suc, true, List, [], ◌∷◌, ◌++◌, drop, Some, None, refl, sym, ap, ◌∙◌, subst, append_assoc, inl, inr}
use Rattle.std.specs.Prelude.{codes, if◌then◌else◌, option_map}
use Rattle.std.specs.Fmt.{signed_decimal}
use Rattle.flow_syntax.proofs.Fronts.{chosen}
use Rattle.flow_term.specs.declared.elem.Elem.{Elem, Elem-F, out-Elem, roll-Elem, roll-out-Elem, fold_out-Elem, map-Elem}
use Rattle.flow_term.specs.declared.elem.Elem.TheVariants as elem
use Rattle.flow_term.specs.Paths.{path_text}
use Rattle.value_text.specs.Texts.{elem_layer_text, elem_text, pair_text, MayBeWritten, HasElemText}
use Rattle.value_text.specs.inner.Reading.{Reading, ◌>>=◌, as_part, begins_integer, begins_with, behind, decimal_of, elem_below, elem_with, item_of, pair_with, path_of, plain_elem, quoted_of, token_elem, token_of}
use Rattle.value_text.proofs.Told.{both_are, bound, mapped, part_is}
use Rattle.value_text.proofs.Identifiers.{item_is}
use Rattle.value_text.proofs.Leaves.{decimal_is, identifier_token, int_read, integer_token, item_read, path_token, pos_read}
use Rattle.value_text.proofs.Lists.{Closes, IsRead, Reads}
use Rattle.value_text.proofs.Paths.{path_is}
use Rattle.value_text.proofs.Quotes.{double, quoted_is, quoted_read, single}
use Rattle.value_text.proofs.Tokens.{EndsToken, IsToken, behind_is, is_first, not_begun, token_is}

-- ** pairs

pub pair_flat : (a b rest : List ℕ) → pair_text a b ++ rest ≡ codes "(" ++ (a ++ (codes ", " ++ (b ++ (codes ")" ++ rest))))
pair_flat a b rest = simp append_assoc

module _ {X : Type 0} (P : X → Type 0) (text : X → List ℕ) (part : List ℕ → Reading X) (reads : Reads P text part) (pair : X → X → X) where
  pub pair_read : (a b : X) (rest : List ℕ) → P a → P b → pair_with pair part (text a ++ (codes ", " ++ (text b ++ (codes ")" ++ rest)))) ≡ Some (pair a b, rest)
  unfolding pair_with
  pair_read a b rest p q =
      let left = reads a (codes ", " ++ (text b ++ (codes ")" ++ rest))) p refl in
      let right = reads b (codes ")" ++ rest) q refl in
      rw (left, right) refl

-- ** one layer

module _ (P : Elem → Type 0) (part : List ℕ → Reading Elem) (reads : Reads P elem_text part) where
  -- a token is no text in quotes and no pair
  plainly : (text rest : List ℕ) (e : Elem) → IsToken text → plain_elem (text ++ rest) ≡ Some (e, rest) → elem_with part (text ++ rest) ≡ Some (e, rest)
  unfolding elem_with
  plainly text rest e t is = rw (not_begun 34 text rest refl t, not_begun 39 text rest refl t, not_begun 40 text rest refl t) is

  layer_read : (x : Elem-F Elem) (rest : List ℕ) → MayBeWritten P x → EndsToken rest → elem_with part (elem_layer_text (map-Elem Elem (List ℕ) elem_text x) ++ rest) ≡ Some (roll-Elem x, rest)
  unfolding elem_with
  layer_read (Elem-F.Name text) rest h ends = ap (as_part elem.Name) (quoted_read 34 double text rest h) ∙ ap (λ e. Some (e, rest)) (sym (elem.rolls-Name text))
  layer_read (Elem-F.Str text) rest h ends = ap (as_part elem.Str) (quoted_read 39 single text rest h) ∙ ap (λ e. Some (e, rest)) (sym (elem.rolls-Str text))
  layer_read (Elem-F.Pos path) rest h ends = plainly (path_text path) rest (elem.Pos path) (path_token path h) (pos_read path rest h ends) ∙ ap (λ e. Some (e, rest)) (sym (elem.rolls-Pos path))
  layer_read (Elem-F.Item text) rest h ends = plainly text rest (elem.Item text) (identifier_token text h) (item_read text rest h ends) ∙ ap (λ e. Some (e, rest)) (sym (elem.rolls-Item text))
  layer_read (Elem-F.Int number) rest h ends =
      plainly (signed_decimal number) rest (elem.Int number) (integer_token number h) (int_read number rest h ends) ∙ ap (λ e. Some (e, rest)) (sym (elem.rolls-Int number))
  layer_read (Elem-F.Pair a b) rest h ends =
      ap (λ bs. pair_with elem.Pair part (drop 1 bs)) (pair_flat (elem_text a) (elem_text b) rest) ∙ pair_read P elem_text part reads elem.Pair a b rest h.0 h.1 ∙ ap (λ e. Some (e, rest)) (sym (elem.rolls-Pair a b))

  pub read_at : (e : Elem) (rest : List ℕ) → MayBeWritten P (out-Elem e) → EndsToken rest → elem_with part (elem_text e ++ rest) ≡ Some (e, rest)
  read_at e rest h ends =
      ap (λ text. elem_with part (text ++ rest)) (fold_out-Elem (List ℕ) elem_layer_text e) ∙ layer_read (out-Elem e) rest h ends ∙ ap (λ x. Some (x, rest)) (roll-out-Elem e)

-- an element in which brackets nest at most so deep
pub elem_read : (n : ℕ) → Reads (HasElemText n) elem_text (elem_below (suc n))
elem_read zero e rest h ends = read_at (λ _. ⊥) (elem_below zero) (λ _ _ no _. absurd no) e rest h ends
elem_read (suc n) e rest h ends = read_at (HasElemText n) (elem_below (suc n)) (elem_read n) e rest h ends

-- ** what is told by what was read

-- a pair of things of which P holds
pub record Paired {X : Type 0} (P : X → Type 0) (text : X → List ℕ) (pair : X → X → X) (bs rest : List ℕ) (y : X) : Type 0 where
  pub left : X
  pub right : X
  pub is : pair left right ≡ y
  pub left_holds : P left
  pub right_holds : P right
  pub whole : bs ≡ text left ++ (codes ", " ++ (text right ++ (codes ")" ++ rest)))

module _ {X : Type 0} (P : X → Type 0) (text : X → List ℕ) (part : List ℕ → Reading X) (is_read : IsRead P text part) (pair : X → X → X) where
  pub pair_is : (bs rest : List ℕ) (y : X) → pair_with pair part bs ≡ Some (y, rest) → Paired P text pair bs rest y
  unfolding pair_with
  pair_is bs rest y e =
      let a = bound (part bs) (λ a. behind (codes ", ") a.1 >>= λ r. part r >>= λ b. behind (codes ")") b.1 >>= λ s. Some (pair a.0 b.0, s)) (y, rest) e in
      let r = bound (behind (codes ", ") a.0.1) (λ r. part r >>= λ b. behind (codes ")") b.1 >>= λ s. Some (pair a.0.0 b.0, s)) (y, rest) a.2 in
      let b = bound (part r.0) (λ b. behind (codes ")") b.1 >>= λ s. Some (pair a.0.0 b.0, s)) (y, rest) r.2 in
      let s = bound (behind (codes ")") b.0.1) (λ s. Some (pair a.0.0 b.0.0, s)) (y, rest) b.2 in
      let t = both_are (pair a.0.0 b.0.0) y s.0 rest s.2 in
      let first = is_read bs a.0.1 a.0.0 a.1 in
      let second = is_read r.0 b.0.1 b.0.0 b.1 in
      record {
        left = a.0.0;
        right = b.0.0;
        is = t.0;
        left_holds = first.0;
        right_holds = second.0;
        whole = first.1 ∙ ap (λ (cs : List ℕ). text a.0.0 ++ cs) (behind_is (codes ", ") a.0.1 r.0 r.1 ∙ ap (λ (cs : List ℕ). codes ", " ++ cs) (second.1
            ∙ ap (λ (cs : List ℕ). text b.0.0 ++ cs) (behind_is (codes ")") b.0.1 s.0 s.1 ∙ ap (λ (cs : List ℕ). codes ")" ++ cs) t.1)));
      }

module _ (P : Elem → Type 0) (part : List ℕ → Reading Elem) (is_read : IsRead P elem_text part) where
  -- an element of this layer, whose text stands in front
  stands : (x : Elem-F Elem) (e : Elem) (bs rest : List ℕ) → out-Elem e ≡ x → MayBeWritten P x → bs ≡ elem_layer_text (map-Elem Elem (List ℕ) elem_text x) ++ rest
      → MayBeWritten P (out-Elem e) × (bs ≡ elem_text e ++ rest)
  stands x e bs rest o may is =
      (subst (MayBeWritten P) (sym o) may, is ∙ ap (λ (t : List ℕ). t ++ rest) (sym (fold_out-Elem (List ℕ) elem_layer_text e ∙ ap (λ y. elem_layer_text (map-Elem Elem (List ℕ) elem_text y)) o)))

  token_stands : (token rest : List ℕ) (e : Elem) → token_elem token ≡ Some e → MayBeWritten P (out-Elem e) × (token ++ rest ≡ elem_text e ++ rest)
  token_stands token rest e is = elim (chosen (begins_with 47 token) (option_map elem.Pos (path_of token)) (if begins_integer token then option_map elem.Int (decimal_of token) else option_map elem.Item (item_of token)) (Some e) is) [
    | inl (_, pos) ↦ (let p = mapped elem.Pos (path_of token) e pos in
        let found = path_is token p.0 p.1 in
        stands (Elem-F.Pos p.0) e (token ++ rest) rest (ap out-Elem (sym p.2) ∙ elem.outs-Pos p.0) found.0 (ap (λ (t : List ℕ). t ++ rest) (sym found.1)))
    | inr (_, others) ↦ elim (chosen (begins_integer token) (option_map elem.Int (decimal_of token)) (option_map elem.Item (item_of token)) (Some e) others) [
      | inl (_, int) ↦ (let p = mapped elem.Int (decimal_of token) e int in
          let found = decimal_is token p.0 p.1 in
          stands (Elem-F.Int p.0) e (token ++ rest) rest (ap out-Elem (sym p.2) ∙ elem.outs-Int p.0) found.0 (ap (λ (t : List ℕ). t ++ rest) (sym found.1)))
      | inr (_, item) ↦ (let p = mapped elem.Item (item_of token) e item in
          let found = item_is token p.0 p.1 in
          stands (Elem-F.Item p.0) e (token ++ rest) rest (ap out-Elem (sym p.2) ∙ elem.outs-Item p.0) found.0 (ap (λ (t : List ℕ). t ++ rest) found.1))
    ]
  ]

  plain_stands : (bs rest : List ℕ) (e : Elem) → plain_elem bs ≡ Some (e, rest) → MayBeWritten P (out-Elem e) × (bs ≡ elem_text e ++ rest)
  unfolding plain_elem
  plain_stands bs rest e is =
      let t = bound (token_of bs) (λ t. token_elem t.0 >>= λ e. Some (e, t.1)) (e, rest) is in
      let p = bound (token_elem t.0.0) (λ e. Some (e, t.0.1)) (e, rest) t.2 in
      let s = both_are p.0 e t.0.1 rest p.2 in
      let found = token_stands t.0.0 rest e (p.1 ∙ ap Some s.0) in
      (found.0, token_is bs t.0 t.1 ∙ ap (λ (cs : List ℕ). t.0.0 ++ cs) s.1 ∙ found.1)

  elem_stands : (bs rest : List ℕ) (e : Elem) → elem_with part bs ≡ Some (e, rest) → MayBeWritten P (out-Elem e) × (bs ≡ elem_text e ++ rest)
  unfolding elem_with
  elem_stands bs rest e is =
      elim (chosen (begins_with 34 bs) (as_part elem.Name (quoted_of 34 (drop 1 bs)))
      (if begins_with 39 bs then as_part elem.Str (quoted_of 39 (drop 1 bs)) else (if begins_with 40 bs then pair_with elem.Pair part (drop 1 bs) else plain_elem bs)) (Some (e, rest)) is) [
        | inl (h, name) ↦ (let p = part_is elem.Name (quoted_of 34 (drop 1 bs)) e rest name in
            let q = quoted_is 34 (drop 1 bs) rest p.0 p.1 in
            stands (Elem-F.Name p.0) e bs rest (ap out-Elem (sym p.2) ∙ elem.outs-Name p.0) q.0 (is_first 34 bs h ∙ ap (λ (cs : List ℕ). 34 ∷ cs) q.1))
        | inr (_, others) ↦ elim (chosen (begins_with 39 bs) (as_part elem.Str (quoted_of 39 (drop 1 bs))) (if begins_with 40 bs then pair_with elem.Pair part (drop 1 bs) else plain_elem bs) (Some (e, rest)) others) [
          | inl (h, str) ↦ (let p = part_is elem.Str (quoted_of 39 (drop 1 bs)) e rest str in
              let q = quoted_is 39 (drop 1 bs) rest p.0 p.1 in
              stands (Elem-F.Str p.0) e bs rest (ap out-Elem (sym p.2) ∙ elem.outs-Str p.0) q.0 (is_first 39 bs h ∙ ap (λ (cs : List ℕ). 39 ∷ cs) q.1))
          | inr (_, more) ↦ elim (chosen (begins_with 40 bs) (pair_with elem.Pair part (drop 1 bs)) (plain_elem bs) (Some (e, rest)) more) [
            | inl (h, pair) ↦ (let p = pair_is P elem_text part is_read elem.Pair (drop 1 bs) rest e pair in
                stands (Elem-F.Pair p.left p.right) e bs rest (ap out-Elem (sym p.is) ∙ elem.outs-Pair p.left p.right) (p.left_holds, p.right_holds)
                (is_first 40 bs h ∙ ap (λ (cs : List ℕ). 40 ∷ cs) p.whole ∙ sym (pair_flat (elem_text p.left) (elem_text p.right) rest)))
            | inr (_, plain) ↦ plain_stands bs rest e plain
          ]
        ]
      ]

-- an element in which brackets nest at most so deep
pub elem_is : (n : ℕ) → IsRead (HasElemText n) elem_text (elem_below (suc n))
elem_is zero bs rest e is = elem_stands (λ _. ⊥) (elem_below zero) (λ _ _ _ none. absurd cc) bs rest e is
elem_is (suc n) bs rest e is = elem_stands (HasElemText n) (elem_below (suc n)) (elem_is n) bs rest e is

-- ** what closes lists of elements

pub no_elem : (n b : ℕ) (bs : List ℕ) → ((rest : List ℕ) (part : List ℕ → Reading Elem) → elem_with part (b ∷ rest) ≡ None) → begins_with b bs ≡ true → elem_below n bs ≡ None
no_elem zero b bs none h = refl
no_elem (suc n) b bs none h = ap (elem_with (elem_below n)) (is_first b bs h) ∙ none (drop 1 bs) (elem_below n)

brace_none : (rest : List ℕ) (part : List ℕ → Reading Elem) → elem_with part (125 ∷ rest) ≡ None
unfolding elem_with plain_elem
brace_none rest part = refl

pub bracket_none : (rest : List ℕ) (part : List ℕ → Reading Elem) → elem_with part (93 ∷ rest) ≡ None
unfolding elem_with plain_elem
bracket_none rest part = refl

empty_none : (part : List ℕ → Reading Elem) → elem_with part [] ≡ None
unfolding elem_with plain_elem
empty_none part = refl

pub nothing_none : (n : ℕ) → elem_below n [] ≡ None
nothing_none zero = refl
nothing_none (suc n) = empty_none (elem_below n)

pub brace : (n : ℕ) → Closes 125 (elem_below n)
brace n = record { itself = refl; ends = λ rest. refl; comma = λ rest. refl; stops = λ bs h. no_elem n 125 bs brace_none h; empty = nothing_none n }
