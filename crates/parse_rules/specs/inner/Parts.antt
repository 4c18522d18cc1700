-- Parts of patterns' productions, and what they make.
use Rattle.std.specs.Prelude.{ℕ, neg_ℤ, List, Option}
use Rattle.flow_syntax.specs.declared.pattern.Pattern.{Pattern, roll-Pattern}
use Rattle.flow_syntax.specs.declared.pattern.PatternKind.TheVariants as patterns
use Rattle.flow_syntax.specs.declared.token.Token.{Token}
use Rattle.grammar_theory.specs.Texts.{Part, Nested, Optional, Symbol, Then}
use Rattle.spec_grammar.specs.Parts.{the, text_of, number_of, inside, listed_in, Listing}
use Rattle.spec_grammar.specs.Patterns.{pattern_at, pattern_list, sorted_variable_of}
use Rattle.spec_grammar.specs.Symbols.{Nonterminal, PatternArguments}
use Rattle.spec_grammar.specs.declared.kind.Kind.{Kind}
use Rattle.spec_grammar.specs.declared.kind.Kind.TheVariants as kinds

-- patterns between two brackets
abbrev pub bracketed : Kind → Kind → Part Nonterminal
bracketed opening closing = Nested (Then (the opening) (Then pattern_list (the closing)))

-- STR [ args ]
abbrev pub quoted : Part Nonterminal
quoted = Then (the kinds.Quoted) (Optional (Symbol PatternArguments))

-- the pattern that a word for a sort and a name make
abbrev pub sorted_of : Token × Token → Pattern
sorted_of x = pattern_at x.0 (sorted_variable_of x.0 (text_of x.1))

-- the pattern that a sign and a number make
abbrev pub negative_of : Token × Token → Pattern
negative_of x = pattern_at x.0 (patterns.IntLit (neg_ℤ (number_of x.1)))

-- the place of the opening bracket, and the patterns
abbrev pub placed : Token × (Option (Listing Pattern) × Token) → ℕ × List Pattern
placed x = (x.0.place, listed_in (inside x))

-- a pattern of a tuple, and one of a list, at the place of its bracket
abbrev pub tuple_at : ℕ → List Pattern → Pattern
tuple_at place parts = roll-Pattern (record { place = place; kind = patterns.Tuple parts })

abbrev pub items_at : ℕ → List Pattern → Pattern
items_at place items = roll-Pattern (record { place = place; kind = patterns.Items items })
