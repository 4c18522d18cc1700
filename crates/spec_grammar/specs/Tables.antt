-- sorts = "sorts" { enum }
-- enum = ID "=" ID { "|" ID }
-- lattices = "lattices" { lattice }
-- lattice = ID "{" "elements" ID { ID } "bottom" ID "join" ID { ID } "}"
-- functions = "functions" { function }
-- function = ID "(" ID [ "," ID ] ")" ":" ID "{" ID { ID } "}"
use Rattle.std.specs.Prelude.{List, [], ◌∷◌, map, Some, None}
use Rattle.flow_syntax.specs.declared.spec.Named.{Named}
use Rattle.flow_syntax.specs.declared.tables.EnumDecl.{EnumDecl}
use Rattle.flow_syntax.specs.declared.tables.FunctionDecl.{FunctionDecl}
use Rattle.flow_syntax.specs.declared.tables.TableDecl.{TableDecl}
use Rattle.flow_syntax.specs.declared.token.Token.{Token}
use Rattle.grammar_theory.specs.Texts.{Part, Then, Optional, PartValue}
use Rattle.spec_grammar.specs.Parts.{the, identifier, identifiers, several, in_round, in_braces, named, listed, inside, all_named}
use Rattle.spec_grammar.specs.Symbols.{Nonterminal, ValueOf}
use Rattle.spec_grammar.specs.declared.kind.Kind.TheVariants as kinds

-- ID "=" ID { "|" ID }
abbrev pub enum_rule : Part Nonterminal
enum_rule = Then identifier (Then (the kinds.Is) (several kinds.Bar identifier))

abbrev pub make_enum : PartValue Token ValueOf enum_rule → EnumDecl
make_enum x = record { name = named x.0; items = map named (listed x.1.1) }

-- "elements" ID { ID } "bottom" ID "join" ID { ID }
abbrev pub table_entries : Part Nonterminal
table_entries = Then (the kinds.Elements) (Then identifiers (Then (the kinds.Bottom) (Then identifier (Then (the kinds.Join) identifiers))))

abbrev pub table_rule : Part Nonterminal
table_rule = Then identifier (in_braces table_entries)

abbrev pub table_named : Named → PartValue Token ValueOf table_entries → TableDecl
table_named name x = record { name = name; elements = all_named x.1.0; bottom = named x.1.1.1.0; join = all_named x.1.1.1.1.1 }

abbrev pub make_table : PartValue Token ValueOf table_rule → TableDecl
make_table x = table_named (named x.0) (inside x.1)

-- ID [ "," ID ]
abbrev pub function_arguments : Part Nonterminal
function_arguments = Then identifier (Optional (Then (the kinds.Comma) identifier))

abbrev pub arguments_named : PartValue Token ValueOf function_arguments → List Named
arguments_named (token, None) = named token ∷ []
arguments_named (token, Some x) = named token ∷ named x.1 ∷ []

-- ID "(" ID [ "," ID ] ")" ":" ID "{" ID { ID } "}"
abbrev pub function_rule : Part Nonterminal
function_rule = Then identifier (Then (in_round function_arguments) (Then (the kinds.Colon) (Then identifier (in_braces identifiers))))

abbrev pub make_function : PartValue Token ValueOf function_rule → FunctionDecl
make_function x = record { name = named x.0; args = arguments_named (inside x.1.0); result = named x.1.1.1.0; table = all_named (inside x.1.1.1.1) }
