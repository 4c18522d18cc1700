-- Parts that many productions have, and what is taken from their values.
use Rattle.std.specs.Prelude.{ℕ, ℤ, pos, List, [], ◌∷◌, map, Option, Some, None}
use Rattle.flow_syntax.specs.declared.spec.Named.{Named}
use Rattle.flow_syntax.specs.declared.token.Token.{Token}
use Rattle.flow_syntax.specs.declared.token.TokenKind.{TokenKind}
use Rattle.flow_syntax.specs.declared.token.TokenKind.TheVariants as tokens
use Rattle.grammar_theory.specs.Texts.{Part, One, Then, Many, Nested, Symbol}
use Rattle.spec_grammar.specs.Kinds.{code_of}
use Rattle.spec_grammar.specs.Symbols.{Nonterminal}
use Rattle.spec_grammar.specs.declared.kind.Kind.{Kind}
use Rattle.spec_grammar.specs.declared.kind.Kind.TheVariants as kinds

-- ** parts

-- a token of one kind
abbrev pub the : Kind → Part Nonterminal
the kind = One (code_of kind ∷ [])

-- a token of one of some kinds
abbrev pub any_of : List Kind → Part Nonterminal
any_of ks = One (map code_of ks)

-- ID
abbrev pub identifier : Part Nonterminal
identifier = the kinds.Identifier

-- ID { ID }
abbrev pub identifiers : Part Nonterminal
identifiers = Then identifier (Many identifier)

-- cname = ID | STR
abbrev pub constructor_name : Part Nonterminal
constructor_name = any_of (kinds.Identifier ∷ kinds.Quoted ∷ [])

-- a symbol behind a word or a separator
abbrev pub symbol_after : Kind → Nonterminal → Part Nonterminal
symbol_after word i = Then (the word) (Symbol i)

-- p { separator p }
abbrev pub several : Kind → Part Nonterminal → Part Nonterminal
several separator p = Then p (Many (Then (the separator) p))

-- a part between two tokens
abbrev pub between : Kind → Part Nonterminal → Kind → Part Nonterminal
between opening p closing = Then (the opening) (Then p (the closing))

-- "(" p ")": a bracket is open from its opening token to its closing one, both included
abbrev pub in_round : Part Nonterminal → Part Nonterminal
in_round p = Nested (between kinds.OpenRound p kinds.CloseRound)

-- "[" p "]"
abbrev pub in_square : Part Nonterminal → Part Nonterminal
in_square p = Nested (between kinds.OpenSquare p kinds.CloseSquare)

-- "{" p "}"
abbrev pub in_braces : Part Nonterminal → Part Nonterminal
in_braces p = Nested (between kinds.OpenBrace p kinds.CloseBrace)

-- ** their values

abbrev pub text_in : TokenKind → List ℕ
text_in (tokens.Ident text) = text
text_in (tokens.Number n) = []
text_in (tokens.Quoted text) = text
text_in (tokens.Word text) = text
text_in (tokens.Symbol text) = text
text_in tokens.Eof = []

-- what an identifier or a quoted text says
abbrev pub text_of : Token → List ℕ
text_of token = text_in token.kind

abbrev pub number_in : TokenKind → ℤ
number_in (tokens.Ident text) = pos 0
number_in (tokens.Number n) = n
number_in (tokens.Quoted text) = pos 0
number_in (tokens.Word text) = pos 0
number_in (tokens.Symbol text) = pos 0
number_in tokens.Eof = pos 0

abbrev pub number_of : Token → ℤ
number_of token = number_in token.kind

-- a name has the place of its token
abbrev pub named : Token → Named
named token = record { text = text_of token; place = token.place }

-- what stands behind a word or a separator
abbrev pub second : {X Y : Type 0} → X × Y → Y
second x = x.1

-- one thing or more, each further one behind a separator
abbrev pub Listing : Type 0 → Type 0
Listing X = X × List (Token × X)

abbrev pub behind : {X : Type 0} → List (Token × X) → List X
behind xs = map (λ x. x.1) xs

abbrev pub listed : {X : Type 0} → Listing X → List X
listed x = x.0 ∷ behind x.1

-- none where there is no list
abbrev pub listed_in : {X : Type 0} → Option (Listing X) → List X
listed_in None = []
listed_in (Some x) = listed x

-- what stands behind a word or a separator, where that is there
abbrev pub behind_in : {X : Type 0} → Option (Token × X) → Option X
behind_in None = None
behind_in (Some x) = Some x.1

-- what stands in a bracket
abbrev pub inside : {X : Type 0} → Token × (X × Token) → X
inside x = x.1.0

abbrev pub all_named : Token × List Token → List Named
all_named x = named x.0 ∷ map named x.1
