-- What passing over bytes keeps.
use Rattle.std.proofs.Common.{◌≡◌, ℕ, ◌<◌, true, List, [], ◌∷◌, ◌++◌, length, Option, refl, sym, ap, subst, ◌∙◌, arith, append_assoc, IsUtf8}
use Rattle.std.specs.Prelude.{nat_le, nat_lt, codes}
use Rattle.std.specs.List.{list_all}
use Rattle.std.proofs.lemmas.Bool.Decides.{nat_tests}
use Rattle.std.proofs.lemmas.Str.{IsUtf8-append, IsUtf8-nil, IsUtf8-from_ascii}
use Rattle.std.specs.Str.Parse.{IsNumeral}
use Rattle.quoted_text.proofs.Cuts.{ascii_byte}
use Rattle.flow_syntax.specs.declared.token.TokenKind.{TokenKind}
use Rattle.flow_syntax.specs.Tokens.{is_blank, symbols, reserved_words, IsLexeme, identifier, word, symbol, number, quoted, EndsLine, IsPassed, blank, comment, token}
use Rattle.flow_syntax.proofs.Characters.{ascii_seam, ascii_text, behind_ascii}
use Rattle.flow_syntax.proofs.Fronts.{all_at}
use Rattle.flow_syntax.proofs.Lexemes.{is_name, some_name, named, words_named, name_bytes, digits_passing}
use Rattle.flow_syntax.proofs.Pieces.{symbols_full, symbols_ascii, names_ascii, digits_ascii}

some_lexeme : (text : List ℕ) (kind : TokenKind) → IsLexeme text kind → 0 < length text
some_lexeme text kind (identifier n r) = some_name text (named text n)
some_lexeme text kind (word r) = some_name text (all_at is_name reserved_words text words_named r)
some_lexeme text kind (symbol s) = let full : nat_le 1 (length text) ≡ true = all_at (λ t. nat_le 1 (length t)) symbols text symbols_full s in grind (arith, nat_tests)
some_lexeme text kind (number n) = n.0
some_lexeme text kind (quoted value (inside, s, e)) = rw e (omega arith)

-- something is passed over
pub passed_some : (text rest : List ℕ) (kind : Option TokenKind) → IsPassed text rest kind → 0 < length text
passed_some text rest kind (blank b h) = omega arith
passed_some text rest kind (comment line n l) = omega arith
passed_some text rest kind (token {kind = k} l small) = some_lexeme text k l.lexeme

blank_ascii : (b : ℕ) → is_blank b ≡ true → list_all (λ c. nat_lt c 128) (b ∷ []) ≡ true
blank_ascii b h = let low : nat_lt b 128 ≡ true = grind (arith, nat_tests) in rw low refl

behind_line : (line rest : List ℕ) → EndsLine rest → IsUtf8 (line ++ rest) → IsUtf8 rest
behind_line line [] l u = IsUtf8-nil
behind_line line (b ∷ rest) l u =
    let cut = ascii_seam line rest 10 (omega arith) (subst (λ c. IsUtf8 (line ++ c ∷ rest)) l u) in
    subst (λ c. IsUtf8 (c ∷ rest)) (sym l) (IsUtf8-append (10 ∷ []) rest (ascii_byte 10 (omega arith)) cut.1)

behind_lexeme : (text rest : List ℕ) (kind : TokenKind) → IsLexeme text kind → IsUtf8 (text ++ rest) → IsUtf8 rest
behind_lexeme text rest kind (identifier n r) u = behind_ascii text rest (names_ascii text (name_bytes text (named text n))) u
behind_lexeme text rest kind (word r) u = behind_ascii text rest (names_ascii text (name_bytes text (all_at is_name reserved_words text words_named r))) u
behind_lexeme text rest kind (symbol s) u = behind_ascii text rest (all_at (λ t. list_all (λ c. nat_lt c 128) t) symbols text symbols_ascii s) u
behind_lexeme text rest kind (number n) u = behind_ascii text rest (digits_ascii text (digits_passing text n.1)) u
behind_lexeme text rest kind (quoted value (inside, s, e)) u =
    (ascii_seam (34 ∷ inside) rest 34 (omega arith) (subst IsUtf8 (ap (λ z. z ++ rest) e ∙ append_assoc (34 ∷ inside) (34 ∷ []) rest) u)).1

-- what stands behind it in a text is a text
pub passed_utf8 : (text rest : List ℕ) (kind : Option TokenKind) → IsPassed text rest kind → IsUtf8 (text ++ rest) → IsUtf8 rest
passed_utf8 text rest kind (blank b h) u = behind_ascii (b ∷ []) rest (blank_ascii b h) u
passed_utf8 text rest kind (comment line n l) u = behind_line (codes "//" ++ line) rest l u
passed_utf8 text rest kind (token {kind = k} l small) u = behind_lexeme text rest k l.lexeme u

pub numeral_utf8 : (text : List ℕ) → IsNumeral 10 text → IsUtf8 text
numeral_utf8 text n = IsUtf8-from_ascii text (ascii_text text (digits_ascii text (digits_passing text n.1)))
