-- Bytes determine the first step of reading them.
use Rattle.std.proofs.Common.{◌≡◌, ℕ, zero, suc, ◌+◌, ◌<◌, ◌≤◌, true, false, List, [], ◌∷◌, ◌++◌, length, take, drop, Some, None, Option, refl, sym, ap, subst, ◌∙◌, arith, inl, inr, append_assoc, append-nil, length-append}
use Rattle.std.specs.Prelude.{◌≢◌, ◌==◌, if◌then◌else◌, not, nat_le, codes, Contains, pos}
use Rattle.std.specs.List.{list_all}
use Rattle.std.specs.Str.Parse.{IsNumeral, digits_value}
use Rattle.std.proofs.lemmas.Bool.{cases_eq, cases_lt}
use Rattle.std.proofs.lemmas.Bool.Decides.{nat_tests}
use Rattle.std.proofs.lemmas.List.{take_at, drop_at, take-append-drop, length-take-le}
use Rattle.quoted_text.specs.Quotes.{IsInside}
use Rattle.flow_syntax.specs.declared.token.TokenKind.{TokenKind}
use Rattle.flow_syntax.specs.declared.token.TokenKind.TheVariants as kinds
use Rattle.flow_syntax.specs.declared.lexer.piece.Piece.{Piece}
use Rattle.flow_syntax.specs.declared.lexer.piece.Piece.TheVariants as pieces
use Rattle.flow_syntax.specs.declared.lexer.refusal.LexFaultKind.{LexFaultKind}
use Rattle.flow_syntax.specs.declared.lexer.refusal.LexFaultKind.TheVariants as faults
use Rattle.flow_syntax.specs.Tokens.{is_blank, symbols, IsLexeme, symbol, number, IsLongest, IsTooLarge, EndsLine, IsPassed, blank, comment, token}
use Rattle.flow_syntax.specs.TokenFaults.{BeginsNoToken, IsFaultAt, bad_character, bad_escape, unclosed, int_range}
use Rattle.flow_syntax.specs.Lexing.{first_piece, name_len, digits_len, line_len, name_kind, part_at}
use Rattle.flow_syntax.proofs.Fronts.{front, same_front, Stops, prefix_is}
use Rattle.flow_syntax.proofs.Lexemes.{Covers, covers, name_lexeme, piece_name, piece_number, is_name, name_not_number, symbol_not_number, quoted_not_number}
use Rattle.flow_syntax.proofs.Pieces.{IsPiece, a_blank, a_name, a_number, a_quote, a_comment, a_symbol, is_piece, piece_within, piece_symbol}
use Rattle.flow_syntax.proofs.Quoting.{same_inside, none_first}

-- so many bytes are passed over, or a fault stands so many bytes further
pub data Outcome : Type 0 where
  passes : ℕ → Option TokenKind → Outcome
  stops : ℕ → LexFaultKind → Outcome

number_outcome : ℕ → ℕ → Outcome
number_outcome n value = if nat_le value 9223372036854775807 then passes n (Some (kinds.Number (pos value))) else stops 0 faults.IntRange

-- what a piece means, unless it's a quote
abbrev plain_outcome : Option Piece → List ℕ → Option Outcome
plain_outcome None bytes = Some (stops 0 faults.BadCharacter)
plain_outcome (Some (pieces.Blank n)) bytes = Some (passes n None)
plain_outcome (Some (pieces.Name n)) bytes = Some (passes n (Some (name_kind (take n bytes))))
plain_outcome (Some (pieces.Number n)) bytes = Some (number_outcome n (digits_value 10 (take n bytes)))
plain_outcome (Some (pieces.Symbol n)) bytes = Some (passes n (Some (kinds.Symbol (take n bytes))))
plain_outcome (Some pieces.Quote) bytes = None

-- what a quote means, by what stands behind the parts of its text
abbrev quote_outcome : ℕ → List ℕ → List ℕ → Outcome
quote_outcome len value [] = stops 0 faults.Unclosed
quote_outcome len value (b ∷ rest) = if b == 34 then passes (len + 2) (Some (kinds.Quoted value)) else stops (len + 1) faults.BadEscape

-- The bytes have this outcome:
data Shown (bytes : List ℕ) (o : Outcome) : Type 0 where
  plain : plain_outcome (first_piece bytes) bytes ≡ Some o → Shown bytes o
  quote : (inside value tail : List ℕ) → first_piece bytes ≡ Some pieces.Quote → bytes ≡ 34 ∷ inside ++ tail → IsInside inside value → part_at tail ≡ None → quote_outcome (length inside) value tail ≡ o → Shown bytes o

never_plain : (bytes : List ℕ) (o : Outcome) → plain_outcome (first_piece bytes) bytes ≡ Some o → first_piece bytes ≡ Some pieces.Quote → ⊥
never_plain bytes o e q = let none = ap (λ p. plain_outcome p bytes) q in cc

shown_same : (bytes : List ℕ) (o u : Outcome) → Shown bytes o → Shown bytes u → o ≡ u
shown_same bytes o u (plain e) (plain f) = cc
shown_same bytes o u (plain e) (quote inside value tail q b s n f) = absurd (never_plain bytes o e q)
shown_same bytes o u (quote inside value tail q b s n f) (plain e) = absurd (never_plain bytes u e q)
shown_same bytes o u (quote inside value tail q b s n f) (quote inside' value' tail' q' b' s' n' f') =
    let tails : inside ++ tail ≡ inside' ++ tail' = (let e = sym b ∙ b' in cc) in
    let same = same_inside inside inside' value value' tail tail' s s' tails n n' in
    let ends : tail ≡ tail' = sym (drop_at inside tail (length inside) refl) ∙ ap (drop (length inside)) tails ∙ drop_at inside' tail' (length inside) (ap length (sym same.0)) in
    sym f ∙ rw (same.0, same.1, ends) f'

-- THE LONGEST TOKEN IS THE PIECE

data IsToken (bytes text : List ℕ) (kind : TokenKind) : Type 0 where
  by_name : first_piece bytes ≡ Some (pieces.Name (length text)) → take (length text) bytes ≡ text → is_name text ≡ true → kind ≡ name_kind text → IsToken bytes text kind
  by_number : first_piece bytes ≡ Some (pieces.Number (length text)) → take (length text) bytes ≡ text → IsNumeral 10 text → kind ≡ kinds.Number (pos (digits_value 10 text)) → IsToken bytes text kind
  by_symbol : first_piece bytes ≡ Some (pieces.Symbol (length text)) → take (length text) bytes ≡ text → Contains symbols text → kind ≡ kinds.Symbol text → IsToken bytes text kind
  by_quote : (inside value : List ℕ) → first_piece bytes ≡ Some pieces.Quote → text ≡ 34 ∷ inside ++ 34 ∷ [] → IsInside inside value → kind ≡ kinds.Quoted value → IsToken bytes text kind

token_piece : (bytes text rest : List ℕ) (kind : TokenKind) → bytes ≡ text ++ rest → IsLongest text kind bytes → IsToken bytes text kind
token_piece bytes text rest kind e l = go (first_piece bytes) refl (covers bytes text rest kind e l.lexeme)
  where
    cut : take (length text) bytes ≡ text
    cut = ap (take (length text)) e ∙ take_at text rest (length text) refl

    -- the piece is no longer than the token, and no shorter
    whole : (n : ℕ) (k : TokenKind) → n ≤ length bytes → length text ≤ n → IsLexeme (take n bytes) k → n ≡ length text
    whole n k within covered piece = omega (arith, length-take-le n bytes within, l.longest (take n bytes) (drop n bytes) k (sym (take-append-drop n bytes)) piece)

    go : (o : Option Piece) → first_piece bytes ≡ o → Covers o text kind → IsToken bytes text kind
    go None p c = absurd c
    go (Some (pieces.Blank n)) p c = absurd c
    go (Some (pieces.Name n)) p c =
        let same = whole n (name_kind (take n bytes)) (piece_within bytes (pieces.Name n) p).1 c.0 (name_lexeme (take n bytes) (piece_name bytes n p)) in
        by_name (p ∙ ap (λ m. Some (pieces.Name m)) same) cut c.1 c.2
    go (Some (pieces.Number n)) p c =
        let same = whole n (kinds.Number (pos (digits_value 10 (take n bytes)))) (piece_within bytes (pieces.Number n) p).1 c.0 (number (piece_number bytes n p)) in
        by_number (p ∙ ap (λ m. Some (pieces.Number m)) same) cut c.1 c.2
    go (Some (pieces.Symbol n)) p c =
        let same = whole n (kinds.Symbol (take n bytes)) (piece_within bytes (pieces.Symbol n) p).1 c.0 (symbol (piece_symbol bytes n p)) in
        by_symbol (p ∙ ap (λ m. Some (pieces.Symbol m)) same) cut c.1 c.2
    go (Some pieces.Quote) p (inside, value, d, s, k) = by_quote inside value p d s k

-- EACH FIRST STEP IS SHOWN

small_number : (n value : ℕ) → (9223372036854775807 < value → ⊥) → number_outcome n value ≡ passes n (Some (kinds.Number (pos value)))
unfolding number_outcome
small_number n value h = elim (cases_lt 9223372036854775807 value) [
  | inl more ↦ absurd (h more)
  | inr le ↦ (let holds : nat_le value 9223372036854775807 ≡ true = grind (arith, nat_tests) in rw holds refl)
]

large_number : (n value : ℕ) → 9223372036854775807 < value → number_outcome n value ≡ stops 0 faults.IntRange
unfolding number_outcome
large_number n value h = let fails : nat_le value 9223372036854775807 ≡ false = grind (arith, nat_tests) in rw fails refl

by_piece : (bytes : List ℕ) (o : Outcome) (p : Option Piece) → first_piece bytes ≡ p → plain_outcome p bytes ≡ Some o → Shown bytes o
by_piece bytes o p e f = plain (ap (λ q. plain_outcome q bytes) e ∙ f)

token_shown : (bytes text rest : List ℕ) (kind : TokenKind) → bytes ≡ text ++ rest → IsToken bytes text kind → (IsTooLarge text → ⊥) → Shown bytes (passes (length text) (Some kind))
token_shown bytes text rest kind e (by_name f t n k) small = by_piece bytes _ _ f (rw (t, k) refl)
token_shown bytes text rest kind e (by_number f t n k) small = by_piece bytes _ _ f (rw (t, k) (ap Some (small_number (length text) (digits_value 10 text) (λ large. small (n, large)))))
token_shown bytes text rest kind e (by_symbol f t c k) small = by_piece bytes _ _ f (rw (t, k) refl)
token_shown bytes text rest kind e (by_quote inside value f d s k) small =
    let len : length inside + 2 ≡ length text = rw d (omega (arith, length-append inside (34 ∷ []))) in
    let whole : bytes ≡ 34 ∷ inside ++ 34 ∷ rest = e ∙ ap (λ z. z ++ rest) d ∙ ap (λ z. 34 ∷ z) (append_assoc inside (34 ∷ []) rest) in
    quote inside value (34 ∷ rest) f whole s refl (rw (len, k) refl)

line_stops : (rest : List ℕ) → EndsLine rest → Stops (λ b. not (b == 10)) rest
line_stops [] h = tt
line_stops (b ∷ rest) h = rw h refl

passing_text : (text : List ℕ) → (Contains text 10 → ⊥) → list_all (λ b. not (b == 10)) text ≡ true
passing_text [] h = refl
passing_text (b ∷ text) h =
    let other : not (b == 10) ≡ true = elim (cases_eq b 10) [ inl e ↦ absurd (h (zero, omega arith, e)) | inr ne ↦ grind (arith, nat_tests) ] in
    rw other (passing_text text (λ c. h (suc c.0, omega (arith, c.1), c.2)))

comment_piece : (bytes : List ℕ) → first_piece (47 ∷ 47 ∷ bytes) ≡ Some (pieces.Blank (line_len (47 ∷ 47 ∷ bytes)))
comment_piece bytes = refl

comment_len : (text rest : List ℕ) → (Contains text 10 → ⊥) → EndsLine rest → line_len ((codes "//" ++ text) ++ rest) ≡ length (codes "//" ++ text)
comment_len text rest n l = prefix_is (λ b. not (b == 10)) (codes "//" ++ text) rest (passing_text text n) (line_stops rest l)

blank_piece : (b : ℕ) (bytes : List ℕ) → is_blank b ≡ true → first_piece (b ∷ bytes) ≡ Some (pieces.Blank 1)
blank_piece b bytes h = rw h refl

pass_shown : (bytes text rest : List ℕ) (kind : Option TokenKind) → bytes ≡ text ++ rest → IsPassed text rest kind → Shown bytes (passes (length text) kind)
pass_shown bytes text rest kind e (blank b h) = by_piece bytes _ _ (ap first_piece e ∙ blank_piece b rest h) refl
pass_shown bytes text rest kind e (comment line n l) = by_piece bytes _ _ (ap first_piece e ∙ comment_piece (line ++ rest)) (rw (comment_len line rest n l) refl)
pass_shown bytes text rest kind e (token {kind = k} l small) = token_shown bytes text rest k e (token_piece bytes text rest k e (subst (λ bs. IsLongest text k bs) (sym e) l)) small

no_piece_at : (b : ℕ) (rest : List ℕ) → (is_blank b ≡ true → ⊥) → b ≢ 34 → ((after : List ℕ) → b ∷ rest ≢ codes "//" ++ after) → BeginsNoToken (b ∷ rest) → first_piece (b ∷ rest) ≡ None
no_piece_at b rest nb nq ns nt = go (first_piece (b ∷ rest)) refl
  where
    cut : (n : ℕ) → b ∷ rest ≡ take n (b ∷ rest) ++ drop n (b ∷ rest)
    cut n = sym (take-append-drop n (b ∷ rest))

    at_piece : (p : Piece) → first_piece (b ∷ rest) ≡ Some p → IsPiece b (b ∷ rest) p → ⊥
    at_piece p e (a_blank h d) = nb h
    at_piece p e (a_name h d) = let f = e ∙ ap Some d in nt _ _ _ (cut (name_len (b ∷ rest))) (name_lexeme _ (piece_name (b ∷ rest) (name_len (b ∷ rest)) f))
    at_piece p e (a_number h d) = let f = e ∙ ap Some d in nt _ _ _ (cut (digits_len (b ∷ rest))) (number (piece_number (b ∷ rest) (digits_len (b ∷ rest)) f))
    at_piece p e (a_quote h d) = nq h
    at_piece p e (a_comment h m d) = ns (drop 2 (b ∷ rest)) (front (b ∷ rest) (codes "//") m)
    at_piece p e (a_symbol s f d) = let g = e ∙ ap Some d in nt _ _ _ (cut (length s)) (symbol (piece_symbol (b ∷ rest) (length s) g))

    go : (o : Option Piece) → first_piece (b ∷ rest) ≡ o → o ≡ None
    go None e = refl
    go (Some p) e = absurd (at_piece p e (is_piece b (b ∷ rest) p e))

large_shown : (bytes text : List ℕ) (kind : TokenKind) → IsToken bytes text kind → IsTooLarge text → Shown bytes (stops 0 faults.IntRange)
large_shown bytes text kind (by_name f t n k) large = absurd (name_not_number text n large.0)
large_shown bytes text kind (by_number f t n k) large = by_piece bytes _ _ f (rw t (ap Some (large_number (length text) (digits_value 10 text) large.1)))
large_shown bytes text kind (by_symbol f t c k) large = absurd (symbol_not_number text c large.0)
large_shown bytes text kind (by_quote inside value f d s k) large = absurd (quoted_not_number (inside ++ 34 ∷ []) (subst (IsNumeral 10) d large.0))

fault_shown : (bytes : List ℕ) (n : ℕ) (kind : LexFaultKind) → IsFaultAt bytes n kind → Shown bytes (stops n kind)
fault_shown bytes n kind (bad_character b rest e nb nq ns nt) =
    by_piece bytes _ None (ap first_piece e ∙ no_piece_at b rest nb nq (λ after f. ns after (e ∙ f)) (subst BeginsNoToken e nt)) refl
fault_shown bytes n kind (bad_escape inside rest value e s np) = quote inside value (92 ∷ rest) (ap first_piece e) e s (none_first (92 ∷ rest) np) refl
fault_shown bytes n kind (unclosed inside value e s) = quote inside value [] (ap first_piece e) (e ∙ ap (λ z. 34 ∷ z) (sym (append-nil inside))) s refl refl
fault_shown bytes n kind (int_range text rest k e l large) = large_shown bytes text k (token_piece bytes text rest k e l) large

-- THE FIRST STEP IS DETERMINED

pub same_pass : (bytes text rest text' rest' : List ℕ) (k k' : Option TokenKind) → bytes ≡ text ++ rest → bytes ≡ text' ++ rest' → IsPassed text rest k → IsPassed text' rest' k' → (text ≡ text') × (rest ≡ rest') × (k ≡ k')
same_pass bytes text rest text' rest' k k' e e' p p' =
    let o = shown_same bytes _ _ (pass_shown bytes text rest k e p) (pass_shown bytes text' rest' k' e' p') in
    let len : length text ≡ length text' = cc in
    let kind : k ≡ k' = cc in
    let texts : text ≡ text' = same_front text text' rest rest' (sym e ∙ e') len in
    (texts, sym (drop_at text rest (length text) refl) ∙ ap (drop (length text)) (sym e ∙ e') ∙ drop_at text' rest' (length text) (sym len), kind)

pub pass_or_fault : (bytes text rest : List ℕ) (k : Option TokenKind) (n : ℕ) (kind : LexFaultKind) → bytes ≡ text ++ rest → IsPassed text rest k → IsFaultAt bytes n kind → ⊥
pass_or_fault bytes text rest k n kind e p f = let o = shown_same bytes _ _ (pass_shown bytes text rest k e p) (fault_shown bytes n kind f) in cc

pub same_fault_at : (bytes : List ℕ) (n n' : ℕ) (kind kind' : LexFaultKind) → IsFaultAt bytes n kind → IsFaultAt bytes n' kind' → (n ≡ n') × (kind ≡ kind')
same_fault_at bytes n n' kind kind' f f' = let o = shown_same bytes _ _ (fault_shown bytes n kind f) (fault_shown bytes n' kind' f') in (cc, cc)
