-- What a graph keeps of a tree: a record for each position.
use Rattle.std.specs.Prelude.{◌≡◌, ◌↔◌, ◌<◌, ◌^◌, ℕ, Bool, true, false, IsTrue, List, ◌++◌, Option, Some, None, length, slice_get, option_and_then, map}
use Rattle.flow_term.specs.declared.term.Term.{Term}
use Rattle.flow_term.specs.declared.graph.Point.TheVariants as point
use Rattle.flow_term.specs.Annotations.{term_layer}
use Rattle.flow_term.specs.Trees.{At, children, term_size}
use Rattle.flow_syntax.specs.declared.rule.FlowRule.{FlowRule}
use Rattle.flow_syntax.specs.declared.spec.Spec.{Spec}
use Rattle.flow_syntax.specs.Control.{HasSmallHead, rule_for}
use Rattle.flow_syntax.specs.Graph.{IsInner, below}
use Rattle.flow_syntax.specs.Matching.{is_list}
use Rattle.flow_links.specs.Below.{LinksBelow}
use Rattle.flow_match.specs.declared.matched.Matched.{Matched}
use Rattle.flow_match.specs.Few.{HasFewRules}
use Rattle.flow_match.specs.Matched.{matched}
use Rattle.graph_laws.specs.Owners.{HasPlacedItems}
use Rattle.path_tree.specs.declared.tree.PathTree.{PathTree}
use Rattle.path_tree.specs.Shapes.{PartAt, children_of, value_of}
use Rattle.rule_plans.specs.declared.stop.Step.{Step}
use Rattle.way_theory.specs.Ways.{Way}
use Rattle.graph_shape.specs.declared.kept.Kept.{Kept}
use Rattle.graph_shape.specs.declared.kept.Summary.{Summary}
use Rattle.graph_shape.specs.declared.plans.Plans.{Plans}
use Rattle.graph_shape.specs.Plans.{IsPlanOf}

-- The steps are the links that an entered position with this matching rule makes, unless it is a list.
abbrev pub IsPlan : Option FlowRule → List Step → Type 0
IsPlan matching steps = (t : Term) → is_list (term_layer t) ≡ false → IsPlanOf matching t steps

-- an entered position with this term is passed: ways lead from its entry to its exit, wherever it stands
abbrev pub IsPassable : Spec → Term → Bool → Type 0
IsPassable spec t b = (path : List ℕ) → IsTrue b ↔ Way IsInner (LinksBelow spec true t path) (point.In path) (point.Out path)

-- The summary of a position, by its term alone: the number of its matching rule, whether it is a list,
-- and whether it would be passed if it were entered.
pub record IsSummaryOf (spec : Spec) (t : Term) (k : Summary) : Type 0 where
  pub rule : option_and_then (slice_get spec.control) k.rule ≡ rule_for spec t
  pub list : k.list ≡ is_list (term_layer t)
  pub passes : IsPassable spec t k.passes

-- the summary that is kept of the root
abbrev pub summary_of : PathTree Kept → Summary
summary_of s = (value_of {T = Kept} s).summary

-- The shape has a record for each position of the term, and no other.
pub record IsPartOf (spec : Spec) (u : Term) (s : PathTree Kept) (rest : List ℕ) : Type 0 where
  pub part : PathTree Kept
  pub at : PartAt s rest ≡ Some part
  pub kept : IsSummaryOf spec u (summary_of part)
  pub count : length (children_of part) ≡ length (children u)

pub record IsShapeOf (spec : Spec) (t : Term) (s : PathTree Kept) : Type 0 where
  pub each : (rest : List ℕ) (u : Term) → At t rest ≡ Some u → IsPartOf spec u s rest

-- The shapes of the terms with the same numbers.
pub record IsShapeAt (spec : Spec) (t : Term) (ss : List (PathTree Kept)) (k : ℕ) : Type 0 where
  pub shape : PathTree Kept
  pub at : slice_get ss k ≡ Some shape
  pub is : IsShapeOf spec t shape

pub record AreShapesOf (spec : Spec) (ts : List Term) (ss : List (PathTree Kept)) : Type 0 where
  pub count : length ss ≡ length ts
  pub each : (k : ℕ) (t : Term) → slice_get ts k ≡ Some t → IsShapeAt spec t ss k

-- whether the position would be passed
abbrev pub would_pass : PathTree Kept → Bool
would_pass s = (summary_of s).passes

-- which children would be passed
abbrev pub bits_of : List (PathTree Kept) → List Bool
bits_of ss = map would_pass ss

-- what matches at a position, as it is kept
abbrev pub matched_of : PathTree Kept → Matched
matched_of s = record { control = (summary_of s).rule; hits = (value_of {T = Kept} s).hits }

-- A position keeps what matches there.
pub record KeepsMatched (spec : Spec) (u : Term) (place : List ℕ) (s : PathTree Kept) (rest : List ℕ) : Type 0 where
  pub part : PathTree Kept
  pub at : PartAt s rest ≡ Some part
  pub is : matched_of part ≡ matched spec u place

-- Each position of a term that stands at a path keeps the rules that match there, with what they bind.
pub record HasMatches (spec : Spec) (t : Term) (path : List ℕ) (s : PathTree Kept) : Type 0 where
  pub each : (rest : List ℕ) (u : Term) → At t rest ≡ Some u → KeepsMatched spec u (path ++ rest) s rest

-- So do the positions of each of the terms, which are children of a position at the path.
pub record HasMatchesAt (spec : Spec) (t : Term) (path : List ℕ) (ss : List (PathTree Kept)) (k : ℕ) : Type 0 where
  pub shape : PathTree Kept
  pub at : slice_get ss k ≡ Some shape
  pub is : HasMatches spec t (below path k) shape

pub record HaveMatches (spec : Spec) (ts : List Term) (path : List ℕ) (ss : List (PathTree Kept)) : Type 0 where
  pub each : (k : ℕ) (t : Term) → slice_get ts k ≡ Some t → HasMatchesAt spec t path ss k

-- The plans of a specification: of each rule by its number, and of no rule. A rule whose head has too many arguments matches no term of fewer than 2^32 parts, so that it needs none.
pub record ArePlans (control : List FlowRule) (plans : Plans) : Type 0 where
  pub count : length plans.rules ≡ length control
  pub each : (n : ℕ) (rule : FlowRule) (steps : List Step) → slice_get control n ≡ Some rule → HasSmallHead rule → slice_get plans.rules n ≡ Some steps → IsPlan (Some rule) steps
  pub none : IsPlan None plans.unmatched

-- No control rule matches a list.
abbrev pub HasNoListRules : Spec → Type 0
HasNoListRules spec = (t : Term) → is_list (term_layer t) ≡ true → rule_for spec t ≡ None

-- The plans are those of a specification in which no item stands where it can't, and no rule matches a list.
pub record AreUsable (spec : Spec) (plans : Plans) : Type 0 where
  pub made : ArePlans spec.control plans
  pub placed : HasPlacedItems spec
  pub lists : HasNoListRules spec

-- Of a tree of fewer than 2^32 parts, and a specification with as few rules, the shape can be made by these plans.
pub record CanBuild (spec : Spec) (plans : Plans) (tree : Term) : Type 0 where
  pub small : term_size tree < 2 ^ 32
  pub few : HasFewRules spec
  pub usable : AreUsable spec plans
