-- The tokens of a text that are identifiers have the texts of identifiers.
use Rattle.std.proofs.Common.{◌≡◌, ℕ, List, [], Some, None, Option, Ok, Err, Result, ◌∙◌, ap, subst, inl, inr, arith}
use Rattle.std.proofs.lemmas.List.Elements.{Contains-push_cases, Contains-append_cases}
use Rattle.std.specs.Prelude.{IfOk, Contains, ◌⊎◌}
use Rattle.flow_syntax.specs.declared.token.Token.{Token}
use Rattle.flow_syntax.specs.declared.token.TokenKind.{TokenKind}
use Rattle.flow_syntax.specs.declared.token.TokenKind.TheVariants as kinds
use Rattle.flow_syntax.specs.declared.lexer.refusal.LexRefusal.{LexRefusal}
use Rattle.flow_syntax.specs.Accepted.{IsIdentifier, HasIdentifierTokens}
use Rattle.flow_syntax.specs.Tokens.{tokens_at, IsLexeme, identifier, word, symbol, number, quoted, IsPassed, blank, comment, token, TokensFrom, finish, pass}

abbrev ident_text : TokenKind → List ℕ
ident_text (kinds.Ident text) = text
ident_text _ = []

abbrev kind_or_end : Option TokenKind → TokenKind
kind_or_end (Some kind) = kind
kind_or_end None = kinds.Eof

lexeme_of : (text other : List ℕ) (kind : TokenKind) → IsLexeme text kind → kind ≡ kinds.Ident other → IsIdentifier other
lexeme_of text other kind (identifier name plain) e = subst IsIdentifier (ap ident_text e) (name, plain)
lexeme_of text other kind (word w) e = cc
lexeme_of text other kind (symbol s) e = cc
lexeme_of text other kind (number n) e = cc
lexeme_of text other kind (quoted value (inside, s, q)) e = cc

passed_of : (text rest other : List ℕ) (kind : Option TokenKind) → IsPassed text rest kind → kind ≡ Some (kinds.Ident other) → IsIdentifier other
passed_of text rest other kind (blank b h) e = cc
passed_of text rest other kind (comment t n l) e = cc
passed_of text rest other kind (token {kind = k} l n) e = lexeme_of text other k l.lexeme (ap kind_or_end e)

told_one : (at : ℕ) (kind : TokenKind) (t : Token) (x : List ℕ) → Contains [] t ⊎ (record { place = at; kind = kind } ≡ t) → t.kind ≡ kinds.Ident x → Some kind ≡ Some (kinds.Ident x)
told_one at kind t x (inl l) e = absurd (omega (arith, l.1))
told_one at kind t x (inr r) e = ap Some (ap (λ (y : Token). y.kind) r ∙ e)

one_of : (at : ℕ) (kind : Option TokenKind) (t : Token) (x : List ℕ) → Contains (tokens_at at kind) t → t.kind ≡ kinds.Ident x → kind ≡ Some (kinds.Ident x)
one_of at None t x h e = absurd (omega (arith, h.1))
one_of at (Some kind) t x h e = told_one at kind t x (Contains-push_cases [] (record { place = at; kind = kind }) t h) e

told_either : (front later : List Token) (t : Token) (x : List ℕ) → (Contains front t → IsIdentifier x) → (Contains later t → IsIdentifier x) → Contains front t ⊎ Contains later t → IsIdentifier x
told_either front later t x f g (inl l) = f l
told_either front later t x f g (inr r) = g r

pub identifiers_from : {at : ℕ} {bytes : List ℕ} {tokens : List Token} → TokensFrom at bytes tokens → HasIdentifierTokens tokens
identifiers_from {at} {bytes} {tokens} (finish {at = n}) t x h e = let k = one_of n (Some kinds.Eof) t x h e in cc
identifiers_from {at} {bytes} {tokens} (pass {at = n} text rest kind later b ts p more) t x h e =
    told_either (tokens_at n kind) later t x (λ l. passed_of text rest x kind p (one_of n kind t x l e)) (λ r. identifiers_from more t x r e)
    (Contains-append_cases (tokens_at n kind) later t (subst (λ (xs : List Token). Contains xs t) ts h))

pub told_identifiers : (bytes : List ℕ) (r : Result (List Token) LexRefusal) → IfOk r (TokensFrom 0 bytes) → IfOk r HasIdentifierTokens
told_identifiers bytes (Ok read) found = identifiers_from found
told_identifiers bytes (Err e) found = tt
