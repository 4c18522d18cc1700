-- The links that the chains of a rule make at a position.
use Rattle.std.specs.Prelude.{Bool, false, IsTrue, ◌≡◌, ℕ, ◌+◌, ◌<◌, List, Option, Some, Contains, length, slice_get}
use Rattle.flow_term.specs.declared.graph.Point.{Point}
use Rattle.flow_syntax.specs.declared.rule.FlowRule.{FlowRule}
use Rattle.flow_syntax.specs.declared.rule.Chain.{Chain}
use Rattle.flow_syntax.specs.declared.rule.Item.{Item}
use Rattle.flow_term.specs.Annotations.{term_layer}
use Rattle.flow_syntax.specs.Matching.{is_list}
use Rattle.flow_syntax.specs.Control.{CountsBy}
use Rattle.flow_syntax.specs.Graph.{arriving, below, leaving}
use Rattle.flow_term.specs.declared.graph.Point.TheVariants as point
use Rattle.flow_term.specs.declared.term.Term.{Term}
use Rattle.flow_term.specs.Trees.{children}

-- a link of two consecutive items, of which the second is one of the first n
pub record PairsBelow (rule : FlowRule) (items : List Item) (path : List ℕ) (n : ℕ) (a b : Point) : Type 0 where
  pub k : ℕ
  pub before : k + 1 < n
  pub left : Item
  pub right : Item
  pub is_left : slice_get items k ≡ Some left
  pub is_right : slice_get items (k + 1) ≡ Some right
  pub leaves : leaving rule path left.kind ≡ Some a
  pub arrives : arriving rule path right.kind ≡ Some b

-- a link of one of these chains
pub record ChainsOf (rule : FlowRule) (chains : List Chain) (path : List ℕ) (a b : Point) : Type 0 where
  pub chain : Chain
  pub has : Contains chains chain
  pub inside : PairsBelow rule chain.items path (length chain.items) a b

-- a link of a chain of the matching rule, if the position counts
pub record RuleLinks (matching : Option FlowRule) (entered : Bool) (path : List ℕ) (a b : Point) : Type 0 where
  pub rule : FlowRule
  pub counts : CountsBy matching entered rule
  pub inside : ChainsOf rule rule.chains path a b

-- a link from an item of a list to the next, of which the second is one of the first n
pub record NextBelow (path : List ℕ) (n : ℕ) (a b : Point) : Type 0 where
  pub k : ℕ
  pub before : k + 1 < n
  pub leaves : a ≡ point.Out (below path k)
  pub arrives : b ≡ point.In (below path (k + 1))

-- a link of a list with n items
pub data ListLinks (path : List ℕ) (n : ℕ) (a b : Point) : Type 0 where
  no_items : n ≡ 0 → a ≡ point.In path → b ≡ point.Out path → ListLinks path n a b
  into_first : 0 < n → a ≡ point.In path → b ≡ point.In (below path 0) → ListLinks path n a b
  to_next : NextBelow path n a b → ListLinks path n a b
  from_last : (k : ℕ) → k + 1 ≡ n → a ≡ point.Out (below path k) → b ≡ point.Out path → ListLinks path n a b

-- a link that an entered position makes beside those of its rule
pub data EnteredLinks (matching : Option FlowRule) (t : Term) (path : List ℕ) (a b : Point) : Type 0 where
  of_list : IsTrue (is_list (term_layer t)) → ListLinks path (length (children t)) a b → EnteredLinks matching t path a b
  of_other : is_list (term_layer t) ≡ false → ((rule : FlowRule) → matching ≡ Some rule → IsTrue rule.root) → a ≡ point.In path → b ≡ point.Out path
      → EnteredLinks matching t path a b
