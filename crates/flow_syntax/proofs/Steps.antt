-- The first step of reading bytes: what is passed over, or the fault.
use Rattle.std.proofs.Common.{◌≡◌, ℕ, ◌<◌, ◌≤◌, Bool, true, false, List, [], ◌∷◌, ◌++◌, length, take, drop, Some, None, Option, refl, sym, ap, subst, ◌∙◌, arith, inl, inr, one-add, append_assoc}
use Rattle.std.specs.Prelude.{◌≢◌, ◌==◌, not, nat_eq, codes, Contains, IsTrue, pos}
use Rattle.std.specs.Char.{is_ascii_alphabetic, is_ascii_digit}
use Rattle.std.specs.List.{starts_with, list_all}
use Rattle.std.specs.Str.Parse.{digits_value}
use Rattle.std.proofs.lemmas.Bool.Decides.{nat_tests}
use Rattle.std.proofs.lemmas.List.{take-append-drop}
use Rattle.quoted_text.specs.Quotes.{IsInside}
use Rattle.flow_syntax.specs.declared.token.TokenKind.{TokenKind}
use Rattle.flow_syntax.specs.declared.token.TokenKind.TheVariants as kinds
use Rattle.flow_syntax.specs.declared.lexer.piece.Piece.TheVariants as pieces
use Rattle.flow_syntax.specs.declared.lexer.refusal.LexFaultKind.TheVariants as faults
use Rattle.flow_syntax.specs.Tokens.{is_blank, symbol, number, quoted, IsLongest, IsTooLarge, EndsLine, IsPassed, blank, comment, token}
use Rattle.flow_syntax.specs.TokenFaults.{BeginsNoToken, IsFaultAt, bad_character, int_range}
use Rattle.flow_syntax.specs.Lexing.{first_piece, line_len, name_kind}
use Rattle.flow_syntax.proofs.Fronts.{chosen, front, starts, Stops, stops_after, all_at, list_all_prefix}
use Rattle.flow_syntax.proofs.Lexemes.{Covers, covers, name_lexeme, piece_name, piece_number, name_not_number, symbol_not_number, quoted_not_number}
use Rattle.flow_syntax.proofs.Pieces.{a_blank, a_name, a_number, a_quote, a_comment, a_symbol, is_piece, piece_within, piece_taken, piece_symbol}
use Rattle.flow_syntax.proofs.Quoting.{same_inside}

-- THE LONGEST TOKEN

-- a piece that is a token is the longest one
pub longest_name : (bytes : List ℕ) (n : ℕ) → first_piece bytes ≡ Some (pieces.Name n) → IsLongest (take n bytes) (name_kind (take n bytes)) bytes
longest_name bytes n e =
    let len : length (take n bytes) ≡ n = piece_taken bytes (pieces.Name n) e in
    record {
      lexeme = name_lexeme (take n bytes) (piece_name bytes n e);
      longest = λ other after k b l. let c = subst (λ o. Covers o other k) e (covers bytes other after k b l) in omega (arith, c.0);
    }

pub longest_number : (bytes : List ℕ) (n : ℕ) → first_piece bytes ≡ Some (pieces.Number n) → IsLongest (take n bytes) (kinds.Number (pos (digits_value 10 (take n bytes)))) bytes
longest_number bytes n e =
    let len : length (take n bytes) ≡ n = piece_taken bytes (pieces.Number n) e in
    record {
      lexeme = number (piece_number bytes n e);
      longest = λ other after k b l. let c = subst (λ o. Covers o other k) e (covers bytes other after k b l) in omega (arith, c.0);
    }

pub longest_symbol : (bytes : List ℕ) (n : ℕ) → first_piece bytes ≡ Some (pieces.Symbol n) → IsLongest (take n bytes) (kinds.Symbol (take n bytes)) bytes
longest_symbol bytes n e =
    let len : length (take n bytes) ≡ n = piece_taken bytes (pieces.Symbol n) e in
    record {
      lexeme = symbol (piece_symbol bytes n e);
      longest = λ other after k b l. let c = subst (λ o. Covers o other k) e (covers bytes other after k b l) in omega (arith, c.0);
    }

-- no part of a quoted text begins at its closing quote
same_quoted : (inside other value v rest after : List ℕ) → IsInside inside value → IsInside other v → (34 ∷ inside ++ 34 ∷ []) ++ rest ≡ (34 ∷ other ++ 34 ∷ []) ++ after → (inside ≡ other) × (value ≡ v)
same_quoted inside other value v rest after s t e =
    let tails : (inside ++ 34 ∷ []) ++ rest ≡ (other ++ 34 ∷ []) ++ after = cc in
    same_inside inside other value v (34 ∷ rest) (34 ∷ after) s t (sym (append_assoc inside (34 ∷ []) rest) ∙ tails ∙ append_assoc other (34 ∷ []) after) refl refl

pub longest_quoted : (inside value rest : List ℕ) → IsInside inside value → IsLongest (34 ∷ inside ++ 34 ∷ []) (kinds.Quoted value) ((34 ∷ inside ++ 34 ∷ []) ++ rest)
longest_quoted inside value rest s = record {
  lexeme = quoted value (inside, s, refl);
  longest = λ other after k b l. go other after k b (covers ((34 ∷ inside ++ 34 ∷ []) ++ rest) other after k b l);
}
  where
    go : (other after : List ℕ) (k : TokenKind) → (34 ∷ inside ++ 34 ∷ []) ++ rest ≡ other ++ after → Covers (Some pieces.Quote) other k → length other ≤ length (34 ∷ inside ++ 34 ∷ [])
    go other after k b (within, v, e, t, d) =
        let same = same_quoted inside within value v rest after s t (b ∙ ap (λ z. z ++ after) e) in
        rw (e, same.0) (omega arith)

-- WHAT THE FIRST PIECE SAYS

abbrev pub Passes : List ℕ → ℕ → Option TokenKind → Type 0
Passes bytes n kind = (n ≤ length bytes) × IsPassed (take n bytes) (drop n bytes) kind

passed_token : (bytes : List ℕ) (n : ℕ) (kind : TokenKind) → IsLongest (take n bytes) kind bytes → (IsTooLarge (take n bytes) → ⊥) → IsPassed (take n bytes) (drop n bytes) (Some kind)
passed_token bytes n kind l small = token (subst (λ bs. IsLongest (take n bytes) kind bs) (sym (take-append-drop n bytes)) l) small

pub name_passes : (bytes : List ℕ) (n : ℕ) → first_piece bytes ≡ Some (pieces.Name n) → Passes bytes n (Some (name_kind (take n bytes)))
name_passes bytes n e = ((piece_within bytes (pieces.Name n) e).1, passed_token bytes n (name_kind (take n bytes)) (longest_name bytes n e) (λ l. name_not_number (take n bytes) (piece_name bytes n e) l.0))

pub symbol_passes : (bytes : List ℕ) (n : ℕ) → first_piece bytes ≡ Some (pieces.Symbol n) → Passes bytes n (Some (kinds.Symbol (take n bytes)))
symbol_passes bytes n e = ((piece_within bytes (pieces.Symbol n) e).1, passed_token bytes n (kinds.Symbol (take n bytes)) (longest_symbol bytes n e) (λ l. symbol_not_number (take n bytes) (piece_symbol bytes n e) l.0))

pub number_passes : (bytes : List ℕ) (n : ℕ) → first_piece bytes ≡ Some (pieces.Number n) → digits_value 10 (take n bytes) ≤ 9223372036854775807
    → Passes bytes n (Some (kinds.Number (pos (digits_value 10 (take n bytes)))))
number_passes bytes n e small =
    ((piece_within bytes (pieces.Number n) e).1, passed_token bytes n (kinds.Number (pos (digits_value 10 (take n bytes)))) (longest_number bytes n e) (λ l. absurd (omega (arith, l.1, small))))

pub number_too_large : (bytes : List ℕ) (n : ℕ) → first_piece bytes ≡ Some (pieces.Number n) → 9223372036854775807 < digits_value 10 (take n bytes) → IsFaultAt bytes 0 faults.IntRange
number_too_large bytes n e large =
    int_range (take n bytes) (drop n bytes) (kinds.Number (pos (digits_value 10 (take n bytes)))) (sym (take-append-drop n bytes)) (longest_number bytes n e) (piece_number bytes n e, large)

pub quoted_passed : (inside value rest : List ℕ) → IsInside inside value → IsPassed (34 ∷ inside ++ 34 ∷ []) rest (Some (kinds.Quoted value))
quoted_passed inside value rest s = token (longest_quoted inside value rest s) (λ l. quoted_not_number (inside ++ 34 ∷ []) l.0)

ends_line : (rest : List ℕ) → Stops (λ b. not (b == 10)) rest → EndsLine rest
ends_line [] h = tt
ends_line (b ∷ rest) h = grind (arith, nat_tests)

no_line_feed : (text : List ℕ) → list_all (λ b. not (b == 10)) text ≡ true → Contains text 10 → ⊥
no_line_feed text h c = let other : not (10 == 10) ≡ true = all_at (λ b. not (b == 10)) text 10 h c in cc

-- a line that begins with two slashes is these and a text
comment_text : (bytes : List ℕ) → starts_with nat_eq bytes (codes "//") ≡ true → (text : List ℕ) × (take (line_len bytes) bytes ≡ codes "//" ++ text) × (list_all (λ b. not (b == 10)) text ≡ true)
comment_text [] h = absurd (let e = front [] (codes "//") h in cc)
comment_text (b ∷ []) h = absurd (let e = front (b ∷ []) (codes "//") h in cc)
comment_text (b ∷ c ∷ bytes) h =
    let e = front (b ∷ c ∷ bytes) (codes "//") h in
    let first : b ≡ 47 = cc in
    let second : c ≡ 47 = cc in
    (take (line_len bytes) bytes, rw (first, second) (rw (one-add, one-add) refl), list_all_prefix (λ b. not (b == 10)) bytes)

comment_passes : (bytes : List ℕ) → starts_with nat_eq bytes (codes "//") ≡ true → IsPassed (take (line_len bytes) bytes) (drop (line_len bytes) bytes) None
comment_passes bytes h =
    let text = comment_text bytes h in
    subst (λ t. IsPassed t (drop (line_len bytes) bytes) None) (sym text.1)
    (comment text.0 (no_line_feed text.0 text.2) (ends_line (drop (line_len bytes) bytes) (stops_after (λ b. not (b == 10)) bytes)))

blank_passed : (bytes : List ℕ) (n : ℕ) → first_piece bytes ≡ Some (pieces.Blank n) → IsPassed (take n bytes) (drop n bytes) None
blank_passed [] n e = cc
blank_passed (b ∷ bytes) n e = elim (is_piece b (b ∷ bytes) (pieces.Blank n) e) [
  | a_blank h d ↦ (let one : n ≡ 1 = cc in rw one (blank b h))
  | a_name h d ↦ cc
  | a_number h d ↦ cc
  | a_quote h d ↦ cc
  | a_comment h m d ↦ (let len : n ≡ line_len (b ∷ bytes) = cc in rw len (comment_passes (b ∷ bytes) m))
  | a_symbol s f d ↦ cc
]

pub blank_passes : (bytes : List ℕ) (n : ℕ) → first_piece bytes ≡ Some (pieces.Blank n) → Passes bytes n None
blank_passes bytes n e = ((piece_within bytes (pieces.Blank n) e).1, blank_passed bytes n e)

-- no token begins where there is no piece
pub nothing_begins : (bytes : List ℕ) → first_piece bytes ≡ None → BeginsNoToken bytes
nothing_begins bytes e text after kind b l = subst (λ o. Covers o text kind) e (covers bytes text after kind b l)

unset_true : (b : Bool) → b ≡ false → IsTrue b → ⊥
unset_true b e t = cc

pub no_piece : (bytes : List ℕ) → first_piece bytes ≡ None → 0 < length bytes → IsFaultAt bytes 0 faults.BadCharacter
no_piece [] e some = absurd (omega arith)
no_piece (b ∷ bytes) e some = elim (chosen (is_blank b) _ _ None e) [
  | inl h ↦ cc
  | inr h ↦ elim (chosen (is_ascii_alphabetic b) _ _ None h.1) [
    | inl k ↦ cc
    | inr k ↦ elim (chosen (is_ascii_digit b) _ _ None k.1) [
      | inl d ↦ cc
      | inr d ↦ elim (chosen (b == 34) _ _ None d.1) [
        | inl q ↦ cc
        | inr q ↦ elim (chosen (starts_with nat_eq (b ∷ bytes) (codes "//")) _ _ None q.1) [
          | inl m ↦ cc
          | inr m ↦ (let other : b ≢ 34 = grind (arith, nat_tests) in
              bad_character b bytes refl (λ t. unset_true (is_blank b) h.0 t) other
              (λ after c. let slashes = starts (b ∷ bytes) (codes "//") after c in let fails = m.0 in cc)
              (nothing_begins (b ∷ bytes) e))
        ]
      ]
    ]
  ]
]
