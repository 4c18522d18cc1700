-- rules = "rules" { rule }
-- rule = ID "(" trigger ")" "=" expr
-- trigger = "prev" "->" pat | pat "->" "next" | pat "." "start" | pat "." "end"
-- messages = "messages" { message }
-- message = level part { "," part } "on" pat [ "if" expr ]
-- level = "error" | "warning" | "note"
-- part = STR | ID
use Rattle.std.specs.Prelude.{[], ◌∷◌, map, if◌then◌else◌}
use Rattle.std.proofs.Common.{inl, inr}
use Rattle.flow_syntax.specs.declared.message.Level.{Level}
use Rattle.flow_syntax.specs.declared.message.Level.TheVariants as levels
use Rattle.flow_syntax.specs.declared.message.Message.{Message}
use Rattle.flow_syntax.specs.declared.message.Part.{Part as MessagePart}
use Rattle.flow_syntax.specs.declared.message.Part.TheVariants as parts
use Rattle.flow_syntax.specs.declared.pattern.Pattern.{Pattern}
use Rattle.flow_syntax.specs.declared.property.PropRule.{PropRule}
use Rattle.flow_syntax.specs.declared.property.Trigger.{Trigger}
use Rattle.flow_syntax.specs.declared.property.Trigger.TheVariants as triggers
use Rattle.flow_syntax.specs.declared.token.Token.{Token}
use Rattle.grammar_theory.specs.Texts.{Part, Then, Or, Optional, Nested, Symbol, PartValue}
use Rattle.spec_grammar.specs.Expressions.{expr_after}
use Rattle.spec_grammar.specs.Kinds.{is_a}
use Rattle.spec_grammar.specs.Parts.{the, any_of, identifier, several, in_round, text_of, named, listed, behind_in, inside}
use Rattle.spec_grammar.specs.Symbols.{Nonterminal, ValueOf, ATrigger, APattern, AnExpr}
use Rattle.spec_grammar.specs.declared.kind.Kind.TheVariants as kinds

-- ID "(" trigger ")" "=" expr
abbrev pub rule_rule : Part Nonterminal
rule_rule = Then identifier (Then (in_round (Symbol ATrigger)) (Then (the kinds.Is) (Symbol AnExpr)))

abbrev pub make_rule : PartValue Token ValueOf rule_rule → PropRule
make_rule x = record { property = named x.0; trigger = inside x.1.0; body = x.1.1.1 }

-- "->" "next" | "." ( "start" | "end" )
abbrev pub after_trigger : Part Nonterminal
after_trigger = Or (Then (the kinds.Arrow) (the kinds.Next)) (Then (the kinds.Dot) (any_of (kinds.Start ∷ kinds.End ∷ [])))

abbrev pub trigger_after : Pattern → PartValue Token ValueOf after_trigger → Trigger
trigger_after p (inl x) = triggers.Backward p
trigger_after p (inr x) = if is_a kinds.Start x.1 then triggers.AtStart p else triggers.AtEnd p

-- "prev" "->" pat | pat after_trigger
abbrev pub trigger_rule : Part Nonterminal
trigger_rule = Or (Then (the kinds.Prev) (Then (the kinds.Arrow) (Symbol APattern))) (Then (Symbol APattern) after_trigger)

abbrev pub make_trigger : PartValue Token ValueOf trigger_rule → Trigger
make_trigger (inl x) = triggers.Forward x.1.1
make_trigger (inr x) = trigger_after x.0 x.1

abbrev pub level_of : Token → Level
level_of token = if is_a kinds.Error token then levels.Error else (if is_a kinds.Warning token then levels.Warning else levels.Note)

abbrev pub part_of : Token → MessagePart
part_of token = if is_a kinds.Quoted token then parts.Words (text_of token) else parts.Bound (named token)

-- part { "," part }
abbrev pub message_parts : Part Nonterminal
message_parts = several kinds.Comma (any_of (kinds.Quoted ∷ kinds.Identifier ∷ []))

-- [ "if" expr ]: the `if` is open to the end of its condition
abbrev pub condition : Part Nonterminal
condition = Optional (Nested (expr_after kinds.If))

-- level part { "," part } "on" pat [ "if" expr ]
abbrev pub message_rule : Part Nonterminal
message_rule = Then (any_of (kinds.Error ∷ kinds.Warning ∷ kinds.Note ∷ [])) (Then message_parts (Then (the kinds.On) (Then (Symbol APattern) condition)))

abbrev pub make_message : PartValue Token ValueOf message_rule → Message
make_message x = record { place = x.0.place; level = level_of x.0; parts = map part_of (listed x.1.0); pattern = x.1.1.1.0; condition = behind_in x.1.1.1.1 }
