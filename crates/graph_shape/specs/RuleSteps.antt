-- The steps of a rule.
use Rattle.std.specs.Prelude.{◌≡◌, true, Option, Some, Contains, option_map}
use Rattle.flow_syntax.specs.declared.rule.FlowRule.{FlowRule}
use Rattle.flow_syntax.specs.declared.rule.Chain.{Chain}
use Rattle.flow_syntax.specs.declared.rule.Item.{Item}
use Rattle.flow_syntax.specs.declared.rule.ItemKind.{ItemKind}
use Rattle.flow_syntax.specs.declared.rule.ItemKind.TheVariants as item
use Rattle.flow_syntax.specs.Control.{argument}
use Rattle.flow_syntax.specs.Graph.{AreConsecutive}
use Rattle.rule_plans.specs.declared.stop.Stop.{Stop}
use Rattle.rule_plans.specs.declared.stop.Stop.TheVariants.{Entry, Exit, Start, End, This, ChildEntry, ChildExit, Child}

-- the stop of an item on the left of an arrow, and on its right
abbrev pub leaving_stop : FlowRule → ItemKind → Option Stop
leaving_stop rule item.Entry = Some Entry
leaving_stop rule item.Exit = Some Exit
leaving_stop rule item.Start = Some Start
leaving_stop rule item.End = Some End
leaving_stop rule item.This = Some This
leaving_stop rule (item.Whole x) = option_map ChildExit (argument rule x)
leaving_stop rule (item.Single x) = option_map Child (argument rule x)

abbrev pub arriving_stop : FlowRule → ItemKind → Option Stop
arriving_stop rule item.Entry = Some Entry
arriving_stop rule item.Exit = Some Exit
arriving_stop rule item.Start = Some Start
arriving_stop rule item.End = Some End
arriving_stop rule item.This = Some This
arriving_stop rule (item.Whole x) = option_map ChildEntry (argument rule x)
arriving_stop rule (item.Single x) = option_map Child (argument rule x)

-- A step of a rule: between consecutive items of a chain, and through the position if it is a root rule.
pub data IsRuleStep (rule : FlowRule) (s u : Stop) : Type 0 where
  between : (chain : Chain) (left right : Item) → Contains rule.chains chain → AreConsecutive chain.items left right → leaving_stop rule left.kind ≡ Some s → arriving_stop rule right.kind ≡ Some u → IsRuleStep rule s u
  through_root : rule.root ≡ true → s ≡ Entry → u ≡ Exit → IsRuleStep rule s u
