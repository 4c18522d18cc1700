-- The kinds of token that the grammar tells apart, each with its number.
use Rattle.std.specs.Prelude.{ℕ, ℤ, pos, negsuc, ◌==◌, Bool, List, [], ◌∷◌, bytes_eq, codes, if◌then◌else◌}
use Rattle.flow_syntax.specs.declared.token.Token.{Token}
use Rattle.flow_syntax.specs.declared.token.TokenKind.{TokenKind}
use Rattle.flow_syntax.specs.declared.token.TokenKind.TheVariants as tokens
use Rattle.spec_grammar.specs.declared.kind.Kind.{Kind}
use Rattle.spec_grammar.specs.declared.kind.Kind.TheVariants as kinds

-- the symbols
abbrev pub symbol_kinds : List (List ℕ × Kind)
symbol_kinds = (codes "|->", kinds.MapsTo) ∷ (codes "->", kinds.Arrow) ∷ (codes ":=", kinds.Becomes) ∷ (codes "==", kinds.Equal) ∷ (codes "!=", kinds.Unequal) ∷
    (codes "<=", kinds.AtMost) ∷ (codes "<", kinds.Below) ∷ (codes "=", kinds.Is) ∷ (codes ":", kinds.Colon) ∷ (codes "(", kinds.OpenRound) ∷
    (codes ")", kinds.CloseRound) ∷ (codes "[", kinds.OpenSquare) ∷ (codes "]", kinds.CloseSquare) ∷ (codes "{", kinds.OpenBrace) ∷ (codes "}", kinds.CloseBrace) ∷
    (codes ",", kinds.Comma) ∷ (codes "+", kinds.Plus) ∷ (codes "-", kinds.Dash) ∷ (codes "*", kinds.Star) ∷ (codes "|", kinds.Bar) ∷ (codes "@", kinds.At) ∷
    (codes ".", kinds.Dot) ∷ (codes "_", kinds.Underscore) ∷ []

-- the reserved words
abbrev pub word_kinds : List (List ℕ × Kind)
word_kinds = (codes "module", kinds.Module) ∷ (codes "signature", kinds.Signature) ∷ (codes "sorts", kinds.Sorts) ∷ (codes "lattices", kinds.Lattices) ∷
    (codes "functions", kinds.Functions) ∷ (codes "control", kinds.Control) ∷ (codes "properties", kinds.Properties) ∷ (codes "rules", kinds.Rules) ∷
    (codes "messages", kinds.Messages) ∷ (codes "root", kinds.Root) ∷ (codes "node", kinds.Node) ∷ (codes "start", kinds.Start) ∷ (codes "end", kinds.End) ∷
    (codes "entry", kinds.Entry) ∷ (codes "exit", kinds.Exit) ∷ (codes "this", kinds.This) ∷ (codes "prev", kinds.Prev) ∷ (codes "next", kinds.Next) ∷
    (codes "name", kinds.Name) ∷ (codes "pos", kinds.Pos) ∷ (codes "str", kinds.Str) ∷ (codes "int", kinds.Int) ∷ (codes "list", kinds.List) ∷ (codes "any", kinds.Any) ∷
    (codes "elements", kinds.Elements) ∷ (codes "bottom", kinds.Bottom) ∷ (codes "join", kinds.Join) ∷ (codes "MaySet", kinds.MaySet) ∷ (codes "MustSet", kinds.MustSet) ∷
    (codes "Flat", kinds.Flat) ∷ (codes "Map", kinds.Map) ∷ (codes "Pair", kinds.Pair) ∷ (codes "if", kinds.If) ∷ (codes "then", kinds.Then) ∷
    (codes "else", kinds.Else) ∷ (codes "bind", kinds.Bind) ∷ (codes "yield", kinds.Yield) ∷ (codes "for", kinds.For) ∷ (codes "in", kinds.In) ∷
    (codes "union", kinds.Union) ∷ (codes "inter", kinds.Inter) ∷ (codes "minus", kinds.Minus) ∷ (codes "and", kinds.And) ∷ (codes "or", kinds.Or) ∷
    (codes "not", kinds.Not) ∷ (codes "true", kinds.True) ∷ (codes "false", kinds.False) ∷ (codes "top", kinds.Top) ∷ (codes "unreached", kinds.Unreached) ∷
    (codes "flat", kinds.MakeFlat) ∷ (codes "fst", kinds.Fst) ∷ (codes "snd", kinds.Snd) ∷ (codes "error", kinds.Error) ∷ (codes "warning", kinds.Warning) ∷
    (codes "note", kinds.Note) ∷ (codes "on", kinds.On) ∷ []

-- what stands beside a text in such a list
abbrev pub kind_in : List (List ℕ × Kind) → List ℕ → Kind
kind_in [] text = kinds.Other
kind_in (row ∷ rows) text = if bytes_eq row.0 text then row.1 else kind_in rows text

-- a number has no sign
abbrev pub number_kind : ℤ → Kind
number_kind (pos n) = kinds.Number
number_kind (negsuc n) = kinds.Other

abbrev pub kind_named : TokenKind → Kind
kind_named (tokens.Ident text) = kinds.Identifier
kind_named (tokens.Number n) = number_kind n
kind_named (tokens.Quoted text) = kinds.Quoted
kind_named (tokens.Word text) = kind_in word_kinds text
kind_named (tokens.Symbol text) = kind_in symbol_kinds text
kind_named tokens.Eof = kinds.EndOfText

-- the numbers: in the order of the kinds
abbrev pub code_of : Kind → ℕ
code_of kinds.Identifier = 0
code_of kinds.Number = 1
code_of kinds.Quoted = 2
code_of kinds.EndOfText = 3
code_of kinds.MapsTo = 4
code_of kinds.Arrow = 5
code_of kinds.Becomes = 6
code_of kinds.Equal = 7
code_of kinds.Unequal = 8
code_of kinds.AtMost = 9
code_of kinds.Below = 10
code_of kinds.Is = 11
code_of kinds.Colon = 12
code_of kinds.OpenRound = 13
code_of kinds.CloseRound = 14
code_of kinds.OpenSquare = 15
code_of kinds.CloseSquare = 16
code_of kinds.OpenBrace = 17
code_of kinds.CloseBrace = 18
code_of kinds.Comma = 19
code_of kinds.Plus = 20
code_of kinds.Dash = 21
code_of kinds.Star = 22
code_of kinds.Bar = 23
code_of kinds.At = 24
code_of kinds.Dot = 25
code_of kinds.Underscore = 26
code_of kinds.Module = 27
code_of kinds.Signature = 28
code_of kinds.Sorts = 29
code_of kinds.Lattices = 30
code_of kinds.Functions = 31
code_of kinds.Control = 32
code_of kinds.Properties = 33
code_of kinds.Rules = 34
code_of kinds.Messages = 35
code_of kinds.Root = 36
code_of kinds.Node = 37
code_of kinds.Start = 38
code_of kinds.End = 39
code_of kinds.Entry = 40
code_of kinds.Exit = 41
code_of kinds.This = 42
code_of kinds.Prev = 43
code_of kinds.Next = 44
code_of kinds.Name = 45
code_of kinds.Pos = 46
code_of kinds.Str = 47
code_of kinds.Int = 48
code_of kinds.List = 49
code_of kinds.Any = 50
code_of kinds.Elements = 51
code_of kinds.Bottom = 52
code_of kinds.Join = 53
code_of kinds.MaySet = 54
code_of kinds.MustSet = 55
code_of kinds.Flat = 56
code_of kinds.Map = 57
code_of kinds.Pair = 58
code_of kinds.If = 59
code_of kinds.Then = 60
code_of kinds.Else = 61
code_of kinds.Bind = 62
code_of kinds.Yield = 63
code_of kinds.For = 64
code_of kinds.In = 65
code_of kinds.Union = 66
code_of kinds.Inter = 67
code_of kinds.Minus = 68
code_of kinds.And = 69
code_of kinds.Or = 70
code_of kinds.Not = 71
code_of kinds.True = 72
code_of kinds.False = 73
code_of kinds.Top = 74
code_of kinds.Unreached = 75
code_of kinds.MakeFlat = 76
code_of kinds.Fst = 77
code_of kinds.Snd = 78
code_of kinds.Error = 79
code_of kinds.Warning = 80
code_of kinds.Note = 81
code_of kinds.On = 82
code_of kinds.Other = 83

-- how many kinds the grammar speaks of
abbrev pub kind_count : ℕ
kind_count = 83

-- the number of a token's kind
unfoldable pub kind_of : Token → ℕ
kind_of token = code_of (kind_named token.kind)

abbrev pub is_kind : Kind → ℕ → Bool
is_kind kind n = n == code_of kind

abbrev pub is_a : Kind → Token → Bool
is_a kind token = kind_of token == code_of kind
