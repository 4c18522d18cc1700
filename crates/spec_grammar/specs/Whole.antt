-- spec = "module" ID [ signature ] [ sorts ] [ lattices ] [ functions ] control [ properties ] [ rules ] [ messages ], and the end of the text
-- sorts = "sorts" { enum }, and so on: the word of a section, and its declarations
use Rattle.std.specs.Prelude.{List, [], Option, Some, None}
use Rattle.flow_syntax.specs.declared.spec.Spec.{Spec}
use Rattle.flow_syntax.specs.declared.token.Token.{Token}
use Rattle.grammar_theory.specs.Texts.{Part, Then, Optional, Many, Symbol, PartValue}
use Rattle.spec_grammar.specs.Parts.{the, identifier, named}
use Rattle.spec_grammar.specs.Symbols.{Nonterminal, ValueOf, ASignature, AnEnum, ATable, AFunction, AControlRule, AProperty, ARule, AMessage}
use Rattle.spec_grammar.specs.declared.kind.Kind.{Kind}
use Rattle.spec_grammar.specs.declared.kind.Kind.TheVariants as kinds

-- the word of a section, and its declarations
abbrev pub section : Kind → Nonterminal → Part Nonterminal
section word declaration = Then (the word) (Many (Symbol declaration))

-- a section that is left out is empty
abbrev pub section_of : {X : Type 0} → Option (Token × List X) → List X
section_of None = []
section_of (Some x) = x.1

-- [ properties ] [ rules ] [ messages ], and the end of the text
abbrev pub sections_after_control : Part Nonterminal
sections_after_control = Then (Optional (section kinds.Properties AProperty)) (Then (Optional (section kinds.Rules ARule)) (Then (Optional (section kinds.Messages AMessage)) (the kinds.EndOfText)))

-- [ lattices ] [ functions ] control ..
abbrev pub sections_after_sorts : Part Nonterminal
sections_after_sorts = Then (Optional (section kinds.Lattices ATable)) (Then (Optional (section kinds.Functions AFunction)) (Then (section kinds.Control AControlRule) sections_after_control))

-- "module" ID [ signature ] [ sorts ] ..
abbrev pub whole_rule : Part Nonterminal
whole_rule = Then (the kinds.Module) (Then identifier (Then (Optional (Symbol ASignature)) (Then (Optional (section kinds.Sorts AnEnum)) sections_after_sorts)))

abbrev pub make_whole : PartValue Token ValueOf whole_rule → Spec
make_whole (module_word, (name, (signature, (enums, (lattices, (functions, (control, (properties, (rules, (messages, end)))))))))) = record {
  name = named name;
  signature = signature;
  enums = section_of enums;
  lattices = section_of lattices;
  functions = section_of functions;
  control = control.1;
  properties = section_of properties;
  rules = section_of rules;
  messages = section_of messages;
}
