-- control = "control" { rule }
-- rule = "node" head | [ "root" ] head "=" chain { "," chain }
-- head = cname "(" [ pat { "," pat } ] ")"
-- chain = item "->" item { "->" item }
-- item = "entry" | "exit" | "start" | "end" | "this" | ID | "node" ID
use Rattle.std.specs.Prelude.{ℕ, false, [], ◌∷◌, Option, Some, None, is_some, if◌then◌else◌}
use Rattle.std.proofs.Common.{inl, inr}
use Rattle.flow_syntax.specs.declared.pattern.Pattern.{Pattern, out-Pattern}
use Rattle.flow_syntax.specs.declared.rule.Chain.{Chain}
use Rattle.flow_syntax.specs.declared.rule.FlowRule.{FlowRule}
use Rattle.flow_syntax.specs.declared.rule.Item.{Item}
use Rattle.flow_syntax.specs.declared.rule.ItemKind.{ItemKind}
use Rattle.flow_syntax.specs.declared.rule.ItemKind.TheVariants as items
use Rattle.flow_syntax.specs.declared.token.Token.{Token}
use Rattle.grammar_theory.specs.Texts.{Part, Then, Or, Optional, Symbol, PartValue}
use Rattle.spec_grammar.specs.Kinds.{is_a}
use Rattle.spec_grammar.specs.Parts.{the, any_of, identifier, constructor_name, several, text_of, listed}
use Rattle.spec_grammar.specs.Patterns.{application_of}
use Rattle.spec_grammar.specs.Symbols.{Nonterminal, ValueOf, AHead, AChain, AnItem, PatternArguments}
use Rattle.spec_grammar.specs.declared.kind.Kind.TheVariants as kinds

-- "entry" | "exit" | "start" | "end" | "this" | ID
abbrev pub plain_item : Part Nonterminal
plain_item = any_of (kinds.Entry ∷ kinds.Exit ∷ kinds.Start ∷ kinds.End ∷ kinds.This ∷ kinds.Identifier ∷ [])

abbrev pub plain_item_of : Token → ItemKind
plain_item_of token = if is_a kinds.Entry token then items.Entry else (if is_a kinds.Exit token then items.Exit else (if is_a kinds.Start token then items.Start
    else (if is_a kinds.End token then items.End else (if is_a kinds.This token then items.This else items.Whole (text_of token)))))

-- plain_item | "node" ID
abbrev pub item_rule : Part Nonterminal
item_rule = Or plain_item (Then (the kinds.Node) identifier)

abbrev pub make_item : PartValue Token ValueOf item_rule → Item
make_item (inl token) = record { place = token.place; kind = plain_item_of token }
make_item (inr x) = record { place = x.0.place; kind = items.Single (text_of x.1) }

-- item "->" item { "->" item }
abbrev pub chain_rule : Part Nonterminal
chain_rule = Then (Symbol AnItem) (Then (the kinds.Arrow) (several kinds.Arrow (Symbol AnItem)))

abbrev pub make_chain : PartValue Token ValueOf chain_rule → Chain
make_chain x = record { items = x.0 ∷ listed x.1.1 }

-- cname args
abbrev pub head_rule : Part Nonterminal
head_rule = Then constructor_name (Symbol PatternArguments)

abbrev pub make_head : PartValue Token ValueOf head_rule → Pattern
make_head x = application_of x.0 x.1

-- "node" head
abbrev pub node_rule : Part Nonterminal
node_rule = Then (the kinds.Node) (Symbol AHead)

-- [ "root" ] head "=" chain { "," chain }
abbrev pub chains_rule : Part Nonterminal
chains_rule = Then (Optional (the kinds.Root)) (Then (Symbol AHead) (Then (the kinds.Is) (several kinds.Comma (Symbol AChain))))

abbrev pub control_rule_rule : Part Nonterminal
control_rule_rule = Or node_rule chains_rule

-- the chain `entry -> this -> exit` of a rule `node head`, whose items have the rule's place
abbrev pub node_chain : ℕ → Chain
node_chain place = record { items = record { place = place; kind = items.Entry } ∷ record { place = place; kind = items.This } ∷ record { place = place; kind = items.Exit } ∷ [] }

-- a rule has the place of its first token
abbrev pub place_before : Option Token → Pattern → ℕ
place_before None head = (out-Pattern head).place
place_before (Some token) head = token.place

abbrev pub make_control_rule : PartValue Token ValueOf control_rule_rule → FlowRule
make_control_rule (inl x) = record { place = x.0.place; root = false; head = x.1; chains = node_chain x.0.place ∷ [] }
make_control_rule (inr x) = record { place = place_before x.0 x.1.0; root = is_some x.0; head = x.1.0; chains = listed x.1.1.1 }
