-- Parts of productions that the parser reads by functions of their own, and what is made of them.
use Rattle.std.specs.Prelude.{List, [], ◌∷◌, map, Option}
use Rattle.flow_syntax.specs.declared.message.Message.{Message}
use Rattle.flow_syntax.specs.declared.message.Part.{Part as MessagePart}
use Rattle.flow_syntax.specs.declared.property.PropDecl.{PropDecl}
use Rattle.flow_syntax.specs.declared.property.PropRule.{PropRule}
use Rattle.flow_syntax.specs.declared.rule.FlowRule.{FlowRule}
use Rattle.flow_syntax.specs.declared.signature.Signature.{Signature}
use Rattle.flow_syntax.specs.declared.spec.Named.{Named}
use Rattle.flow_syntax.specs.declared.spec.Spec.{Spec}
use Rattle.flow_syntax.specs.declared.tables.EnumDecl.{EnumDecl}
use Rattle.flow_syntax.specs.declared.tables.FunctionDecl.{FunctionDecl}
use Rattle.flow_syntax.specs.declared.tables.TableDecl.{TableDecl}
use Rattle.flow_syntax.specs.declared.token.Token.{Token}
use Rattle.grammar_theory.specs.Texts.{Part, PartValue, Then}
use Rattle.spec_grammar.specs.Parts.{the, any_of, identifier, listed}
use Rattle.spec_grammar.specs.Rules.{message_parts, part_of}
use Rattle.spec_grammar.specs.Symbols.{Nonterminal, ValueOf}
use Rattle.spec_grammar.specs.Whole.{section_of, sections_after_control, sections_after_sorts}
use Rattle.spec_grammar.specs.declared.kind.Kind.TheVariants as kinds

-- the parts of a message
abbrev pub parts_of : PartValue Token ValueOf message_parts → List MessagePart
parts_of x = map part_of (listed x)

-- "," part
abbrev pub further_part : Part Nonterminal
further_part = Then (the kinds.Comma) (any_of (kinds.Quoted ∷ kinds.Identifier ∷ []))

abbrev pub part_behind : PartValue Token ValueOf further_part → MessagePart
part_behind x = part_of x.1

-- what the sections behind the control rules hold
abbrev pub Tail : Type 0
Tail = List PropDecl × (List PropRule × List Message)

abbrev pub tail_of : PartValue Token ValueOf sections_after_control → Tail
tail_of x = (section_of x.0, (section_of x.1.0, section_of x.1.1.0))

-- what the sections behind the sorts hold
abbrev pub Body : Type 0
Body = List TableDecl × (List FunctionDecl × (List FlowRule × Tail))

abbrev pub body_of : PartValue Token ValueOf sections_after_sorts → Body
body_of x = (section_of x.0, (section_of x.1.0, (x.1.1.0.1, tail_of x.1.1.1)))

-- "module" ID
abbrev pub module_name : Part Nonterminal
module_name = Then (the kinds.Module) identifier

-- the specification that these parts are
abbrev pub spec_of : Named → Option Signature → List EnumDecl → Body → Spec
spec_of name signed enums (lattices, (functions, (control, (properties, (rules, messages))))) = record {
  name = name;
  signature = signed;
  enums = enums;
  lattices = lattices;
  functions = functions;
  control = control;
  properties = properties;
  rules = rules;
  messages = messages;
}
