-- pat = "_" | ID | ID "@" firm | firm
-- firm = "name" ID | "str" ID | "int" ID | [ "-" ] INT | STR | cname args | "(" [ pat { "," pat } ] ")" | "[" [ pat { "," pat } ] "]"
-- args = "(" [ pat { "," pat } ] ")"
--
-- So that one token decides, what may follow an identifier or a quoted text is split off from it:
-- pat = "_" | ID [ args | "@" firm ] | unnamed
-- firm = ID args | unnamed
-- unnamed = ( "name" | "str" | "int" ) ID | INT | "-" INT | STR [ args ] | "(" .. ")" | "[" .. "]"
use Rattle.std.specs.Prelude.{ℕ, neg_ℤ, List, [], ◌∷◌, Option, Some, None, if◌then◌else◌}
use Rattle.std.proofs.Common.{inl, inr}
use Rattle.flow_syntax.specs.declared.pattern.Pattern.{Pattern, roll-Pattern}
use Rattle.flow_syntax.specs.declared.pattern.PatternKind.{PatternKind}
use Rattle.flow_syntax.specs.declared.pattern.PatternKind.TheVariants as patterns
use Rattle.flow_syntax.specs.declared.token.Token.{Token}
use Rattle.grammar_theory.specs.Texts.{Part, Then, Or, Optional, Nested, Symbol, PartValue}
use Rattle.spec_grammar.specs.Kinds.{is_a}
use Rattle.spec_grammar.specs.Parts.{the, any_of, identifier, several, in_round, in_square, text_of, number_of, listed_in, inside}
use Rattle.spec_grammar.specs.Symbols.{Nonterminal, ValueOf, APattern, AFirmPattern, AnUnnamedPattern, PatternArguments}
use Rattle.spec_grammar.specs.declared.kind.Kind.TheVariants as kinds

-- a pattern has the place of its first token
abbrev pub pattern_at : Token → PatternKind → Pattern
pattern_at token kind = roll-Pattern (record { place = token.place; kind = kind })

abbrev pub application_of : Token → List Pattern → Pattern
application_of token parts = pattern_at token (patterns.Apply (text_of token) parts)

-- [ pat { "," pat } ]
abbrev pub pattern_list : Part Nonterminal
pattern_list = Optional (several kinds.Comma (Symbol APattern))

-- "(" [ pat { "," pat } ] ")"
abbrev pub pattern_arguments_rule : Part Nonterminal
pattern_arguments_rule = in_round pattern_list

abbrev pub make_pattern_arguments : PartValue Token ValueOf pattern_arguments_rule → List Pattern
make_pattern_arguments x = listed_in (inside x)

-- args | "@" firm: the `@` is open to the end of what it holds
abbrev pub after_identifier : Part Nonterminal
after_identifier = Or (Symbol PatternArguments) (Nested (Then (the kinds.At) (Symbol AFirmPattern)))

abbrev pub identifier_pattern : Token → Option (PartValue Token ValueOf after_identifier) → Pattern
identifier_pattern token None = pattern_at token (patterns.Var (text_of token))
identifier_pattern token (Some (inl parts)) = application_of token parts
identifier_pattern token (Some (inr x)) = pattern_at token (patterns.Held (text_of token) x.1)

-- "_" | ID [ args | "@" firm ] | unnamed
abbrev pub pattern_rule : Part Nonterminal
pattern_rule = Or (the kinds.Underscore) (Or (Then identifier (Optional after_identifier)) (Symbol AnUnnamedPattern))

abbrev pub make_pattern : PartValue Token ValueOf pattern_rule → Pattern
make_pattern (inl token) = pattern_at token patterns.Wild
make_pattern (inr (inl x)) = identifier_pattern x.0 x.1
make_pattern (inr (inr p)) = p

-- ID args | unnamed
abbrev pub firm_pattern_rule : Part Nonterminal
firm_pattern_rule = Or (Then identifier (Symbol PatternArguments)) (Symbol AnUnnamedPattern)

abbrev pub make_firm_pattern : PartValue Token ValueOf firm_pattern_rule → Pattern
make_firm_pattern (inl x) = application_of x.0 x.1
make_firm_pattern (inr p) = p

-- ( "name" | "str" | "int" ) ID
abbrev pub sorted_variable : Part Nonterminal
sorted_variable = Then (any_of (kinds.Name ∷ kinds.Str ∷ kinds.Int ∷ [])) identifier

abbrev pub sorted_variable_of : Token → List ℕ → PatternKind
sorted_variable_of token text = if is_a kinds.Name token then patterns.NameVar text else (if is_a kinds.Str token then patterns.StrVar text else patterns.IntVar text)

-- "-" INT: a prefix operator
abbrev pub negative_number : Part Nonterminal
negative_number = Nested (Then (the kinds.Dash) (the kinds.Number))

-- STR [ args ]
abbrev pub quoted_pattern : Token → Option (List Pattern) → Pattern
quoted_pattern token None = pattern_at token (patterns.StrLit (text_of token))
quoted_pattern token (Some parts) = application_of token parts

-- ( "name" | "str" | "int" ) ID | INT | "-" INT | STR [ args ] | "(" [ pat { "," pat } ] ")" | "[" [ pat { "," pat } ] "]"
abbrev pub unnamed_pattern_rule : Part Nonterminal
unnamed_pattern_rule = Or sorted_variable (Or (the kinds.Number) (Or negative_number (Or (Then (the kinds.Quoted) (Optional (Symbol PatternArguments))) (Or (in_round pattern_list) (in_square pattern_list)))))

abbrev pub make_unnamed_pattern : PartValue Token ValueOf unnamed_pattern_rule → Pattern
make_unnamed_pattern (inl x) = pattern_at x.0 (sorted_variable_of x.0 (text_of x.1))
make_unnamed_pattern (inr (inl token)) = pattern_at token (patterns.IntLit (number_of token))
make_unnamed_pattern (inr (inr (inl x))) = pattern_at x.0 (patterns.IntLit (neg_ℤ (number_of x.1)))
make_unnamed_pattern (inr (inr (inr (inl x)))) = quoted_pattern x.0 x.1
make_unnamed_pattern (inr (inr (inr (inr (inl x))))) = pattern_at x.0 (patterns.Tuple (listed_in (inside x)))
make_unnamed_pattern (inr (inr (inr (inr (inr x))))) = pattern_at x.0 (patterns.Items (listed_in (inside x)))
