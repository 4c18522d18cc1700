-- What parts of control rules and triggers make.
use Rattle.std.specs.Prelude.{ℕ, List, [], ◌∷◌, false, Option, Some, None, is_some}
use Rattle.flow_syntax.specs.declared.property.Trigger.{Trigger}
use Rattle.flow_syntax.specs.declared.property.Trigger.TheVariants as triggers
use Rattle.flow_syntax.specs.declared.rule.Chain.{Chain}
use Rattle.flow_syntax.specs.declared.rule.FlowRule.{FlowRule}
use Rattle.flow_syntax.specs.declared.rule.Item.{Item}
use Rattle.flow_syntax.specs.declared.rule.ItemKind.TheVariants as items
use Rattle.flow_syntax.specs.declared.token.Token.{Token}
use Rattle.grammar_theory.specs.Texts.{Part, PartValue, Symbol, Then}
use Rattle.spec_grammar.specs.Control.{chains_rule, node_chain, node_rule, place_before, plain_item_of}
use Rattle.spec_grammar.specs.Parts.{identifier, listed, several, text_of, the}
use Rattle.spec_grammar.specs.Rules.{after_trigger, trigger_after}
use Rattle.spec_grammar.specs.Symbols.{Nonterminal, ValueOf, AChain, APattern}
use Rattle.spec_grammar.specs.declared.kind.Kind.TheVariants as kinds

-- an item of one token
abbrev pub plain_item_at : Token → Item
plain_item_at token = record { place = token.place; kind = plain_item_of token }

-- "node" ID
abbrev pub node_item : Part Nonterminal
node_item = Then (the kinds.Node) identifier

abbrev pub node_item_of : Token × Token → Item
node_item_of x = record { place = x.0.place; kind = items.Single (text_of x.1) }

-- the rule that `node` and a head make
abbrev pub node_rule_of : PartValue Token ValueOf node_rule → FlowRule
node_rule_of x = record { place = x.0.place; root = false; head = x.1; chains = node_chain x.0.place ∷ [] }

-- the rule that a head and chains make, which `root` may stand before
abbrev pub chains_rule_of : PartValue Token ValueOf chains_rule → FlowRule
chains_rule_of x = record { place = place_before x.0 x.1.0; root = is_some x.0; head = x.1.0; chains = listed x.1.1.1 }

abbrev pub root_place : Option Token → Option ℕ
root_place None = None
root_place (Some token) = Some token.place

-- "=" chain { "," chain }
abbrev pub chains_behind : Part Nonterminal
chains_behind = Then (the kinds.Is) (several kinds.Comma (Symbol AChain))

abbrev pub chains_in : PartValue Token ValueOf chains_behind → List Chain
chains_in x = listed x.1

-- "prev" "->" pat
abbrev pub forward_trigger : Part Nonterminal
forward_trigger = Then (the kinds.Prev) (Then (the kinds.Arrow) (Symbol APattern))

abbrev pub forward_of : PartValue Token ValueOf forward_trigger → Trigger
forward_of x = triggers.Forward x.1.1

-- pat after_trigger
abbrev pub other_trigger : Part Nonterminal
other_trigger = Then (Symbol APattern) after_trigger

abbrev pub other_of : PartValue Token ValueOf other_trigger → Trigger
other_of x = trigger_after x.0 x.1
