-- The steps of a rule, item by item and chain by chain.
use Rattle.std.specs.Prelude.{◌≡◌, ℕ, ◌+◌, ◌<◌, List, Some, Contains, length, slice_get}
use Rattle.flow_syntax.specs.declared.rule.FlowRule.{FlowRule}
use Rattle.flow_syntax.specs.declared.rule.Chain.{Chain}
use Rattle.flow_syntax.specs.declared.rule.Item.{Item}
use Rattle.flow_syntax.specs.declared.rule.ItemKind.{ItemKind}
use Rattle.flow_syntax.specs.Control.{HasSmallHead}
use Rattle.rule_plans.specs.declared.stop.Stop.TheVariants.{Entry, Exit}
use Rattle.rule_plans.specs.declared.stop.Step.{Step}
use Rattle.graph_shape.specs.RuleSteps.{leaving_stop, arriving_stop}
use Rattle.graph_shape.specs.Shapes.{IsPlan}

-- the step from an item to the next
pub record IsItemStep (rule : FlowRule) (left right : ItemKind) (step : Step) : Type 0 where
  pub leaves : leaving_stop rule left ≡ Some step.from
  pub arrives : arriving_stop rule right ≡ Some step.to

-- a step of two consecutive items, of which the second is one of the first n
pub record PairSteps (rule : FlowRule) (items : List Item) (n : ℕ) (step : Step) : Type 0 where
  pub k : ℕ
  pub before : k + 1 < n
  pub left : Item
  pub right : Item
  pub is_left : slice_get items k ≡ Some left
  pub is_right : slice_get items (k + 1) ≡ Some right
  pub is : IsItemStep rule left.kind right.kind step

-- a step of one of these chains
pub record ChainSteps (rule : FlowRule) (chains : List Chain) (step : Step) : Type 0 where
  pub chain : Chain
  pub has : Contains chains chain
  pub inside : PairSteps rule chain.items (length chain.items) step

-- the step through a position
abbrev pub IsPassing : Step → Type 0
IsPassing step = step ≡ record { from = Entry; to = Exit }

-- the steps of these rules, each by its number
pub record AreRulePlans (rules : List FlowRule) (plans : List (List Step)) : Type 0 where
  pub count : length plans ≡ length rules
  pub each : (n : ℕ) (rule : FlowRule) (steps : List Step) → slice_get rules n ≡ Some rule → HasSmallHead rule → slice_get plans n ≡ Some steps → IsPlan (Some rule) steps
