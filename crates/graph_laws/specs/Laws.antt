-- The laws of owned edges, each as one sentence.
use Rattle.std.specs.Prelude.{◌≡◌, ◌↔◌, ℕ, ◌+◌, ◌<◌, Bool, true, false, IsTrue, List, ◌++◌, length, None, Some}
use Rattle.flow_term.specs.declared.term.Term.{Term}
use Rattle.flow_term.specs.declared.graph.Node.{Node}
use Rattle.flow_term.specs.declared.graph.Point.{Point}
use Rattle.flow_term.specs.declared.graph.Point.TheVariants as point
use Rattle.flow_term.specs.Annotations.{term_layer}
use Rattle.flow_term.specs.Trees.{At, Put, children}
use Rattle.flow_syntax.specs.declared.pattern.Pattern.{Pattern}
use Rattle.flow_syntax.specs.declared.spec.Spec.{Spec}
use Rattle.flow_syntax.specs.Accepted.{HasAppliedHeads}
use Rattle.flow_syntax.specs.Control.{entered_at, rule_for}
use Rattle.flow_syntax.specs.Faults.{HasNoFault}
use Rattle.flow_syntax.specs.Graph.{IsEdge, IsInner, point_of}
use Rattle.flow_syntax.specs.Matching.{is_list, matches}
use Rattle.flow_syntax.specs.RuleFaults.{looks_deep, pattern_limit}
use Rattle.flow_match.specs.Bindings.{bindings_at}
use Rattle.flow_match.specs.Matched.{matched}
use Rattle.way_theory.specs.Hops.{Arrives}
use Rattle.way_theory.specs.Lists.{IsBetween, IsFirstFrom, IsLastBefore, IsPassedFrom}
use Rattle.way_theory.specs.Ways.{Way}
use Rattle.graph_laws.specs.Alike.{AreAlike}
use Rattle.graph_laws.specs.Replacements.{AreAsunder, IsNodeOutside, IsOwnedOutside, NearRulesStay, RulesStay, SameWays}
use Rattle.graph_laws.specs.Owners.{HasPlacedItems, HasShallowHeads, HasShallowPatterns, IsOwned, Owns}
use Rattle.graph_laws.specs.Parts.{Exit, onward, HasFirst, HasLast, IsPassed, child_entry, child_exit, child_first, child_last, child_passes, exit_at, own_links, own_steps}

-- The edges of a tree are exactly those that its positions own.
abbrev pub EdgesAreOwned : Type 0
EdgesAreOwned = (spec : Spec) → HasPlacedItems spec → (tree : Term) (from to : Node) → IsEdge spec tree from to ↔ IsOwned spec tree from to

-- The owner of an edge stands at a common prefix of the paths of its two nodes.
abbrev pub OwnersAreCommonPrefixes : Type 0
OwnersAreCommonPrefixes = (spec : Spec) → HasPlacedItems spec → (entered : Bool) (t : Term) (path : List ℕ) (from to : Node) → Owns spec entered t path from to
    → ((rest : List ℕ) × (from.path ≡ path ++ rest)) × ((rest : List ℕ) × (to.path ≡ path ++ rest))

-- What a position is known by is what its own steps reach: its first nodes from its entry, its last nodes and its passing to its exits.
pub record IsKnownBySteps (spec : Spec) (entered : Bool) (t : Term) (path : List ℕ) : Type 0 where
  pub first : (n : Node) → HasFirst spec entered t path n ↔ Way IsInner (own_steps spec entered t path) (point.In path) (point_of n)
  pub last : (e : Exit) (n : Node) → HasLast spec entered t path e n ↔ Way IsInner (own_steps spec entered t path) (point_of n) (exit_at path e)
  pub passes : (e : Exit) → IsPassed spec entered t path e ↔ Way IsInner (own_steps spec entered t path) (point.In path) (exit_at path e)

abbrev pub KnownBySteps : Type 0
KnownBySteps = (spec : Spec) → HasPlacedItems spec → (entered : Bool) (t : Term) (path : List ℕ) → IsKnownBySteps spec entered t path

-- The ways of a position's steps are hops, its own links and passed children, before which it may come from a last node of a child, and behind which it may go to a first node of a child.
abbrev pub StepsAreHops : Type 0
StepsAreHops = (spec : Spec) (entered : Bool) (t : Term) (path : List ℕ) (a b : Point) → ((k : ℕ) → ¬ (a ≡ child_entry path k))
    → Way IsInner (own_steps spec entered t path) a b ↔ Arrives IsInner (own_links spec entered t path) (child_entry path) (child_exit path) (child_first spec entered t path) (child_last spec entered t path) (child_passes spec entered t path) a b

-- An entered list is known by its items: an edge that it owns leads from a last node of an item to a first node of a later one, and all between are passed; and so on.
pub record IsKnownByItems (spec : Spec) (t : Term) (path : List ℕ) : Type 0 where
  pub owns : (from to : Node) → Owns spec true t path from to ↔ IsBetween onward (length (children t)) (child_first spec true t path) (child_last spec true t path) (child_passes spec true t path) (point_of from) (point_of to)
  pub first : (n : Node) → HasFirst spec true t path n ↔ IsFirstFrom onward (length (children t)) (child_first spec true t path) (child_passes spec true t path) 0 (point_of n)
  pub last : (e : Exit) (n : Node) → HasLast spec true t path e n ↔ IsLastBefore onward (length (children t)) (child_last spec true t path) (child_passes spec true t path) e (point_of n)
  pub passes : (e : Exit) → IsPassed spec true t path e ↔ IsPassedFrom onward (length (children t)) (child_passes spec true t path) 0 e

abbrev pub ListsKnownByItems : Type 0
ListsKnownByItems = (spec : Spec) → HasPlacedItems spec → (t : Term) (path : List ℕ) → IsTrue (is_list (term_layer t)) → rule_for spec t ≡ None → IsKnownByItems spec t path

-- ** accepted specifications

-- In a specification without faults no item stands where it can't,
abbrev pub ItemsArePlaced : Type 0
ItemsArePlaced = (spec : Spec) → HasNoFault spec → HasPlacedItems spec

-- and no head looks deeper than a pattern may.
abbrev pub HeadsAreShallow : Type 0
HeadsAreShallow = (spec : Spec) → HasNoFault spec → HasShallowHeads spec

-- Nor does any other pattern.
abbrev pub PatternsAreShallow : Type 0
PatternsAreShallow = (spec : Spec) → HasNoFault spec → HasShallowPatterns spec

-- Where all heads are applications, no rule matches a list.
abbrev pub ListsHaveNoRule : Type 0
ListsHaveNoRule = (spec : Spec) → HasAppliedHeads spec → (t : Term) → IsTrue (is_list (term_layer t)) → rule_for spec t ≡ None

-- ** what a replacement leaves

-- A replacement leaves a term alike on as many levels as stand above it.
abbrev pub ReplacementsLeaveAlike : Type 0
ReplacementsLeaveAlike = (t : Term) (path : List ℕ) (new : Term) → AreAlike (length path) t (Put t path new)

-- A pattern that doesn't look too deep from its level on matches both of two terms or neither, where they are alike on all levels that it may see.
abbrev pub AlikeTermsMatchAlike : Type 0
AlikeTermsMatchAlike = (p : Pattern) (level n : ℕ) (t u : Term) → looks_deep p level ≡ false → pattern_limit < level + n → AreAlike n t u → matches p u ≡ matches p t

-- A replacement nine or more levels below a term leaves its matching rule.
abbrev pub FarRulesStay : Type 0
FarRulesStay = (spec : Spec) → HasShallowHeads spec → (t new : Term) (path : List ℕ) → pattern_limit < length path → rule_for spec (Put t path new) ≡ rule_for spec t

-- Nor does such a pattern bind otherwise at them.
abbrev pub AlikeTermsBindAlike : Type 0
AlikeTermsBindAlike = (p : Pattern) (level n : ℕ) (t u : Term) (path : List ℕ) → looks_deep p level ≡ false → pattern_limit < level + n → AreAlike n t u → bindings_at p u path ≡ bindings_at p t path

-- A replacement nine or more levels below a position leaves all that matches there: its control rule, and the rules of properties with what they bind.
abbrev pub FarMatchesStay : Type 0
FarMatchesStay = (spec : Spec) → HasShallowPatterns spec → (t new : Term) (rest path : List ℕ) → pattern_limit < length rest → matched spec (Put t rest new) path ≡ matched spec t path

-- A position that is neither above nor below a replacement has the term that it had, and so its rule, and is entered as it was.
abbrev pub PositionsStayElsewhere : Type 0
PositionsStayElsewhere = (spec : Spec) (tree new : Term) (path q : List ℕ) → AreAsunder path q → RulesStay spec new tree path
    → (At (Put tree path new) q ≡ At tree q) × (entered_at spec (Put tree path new) q ≡ entered_at spec tree q)

-- A replacement below a position replaces the position's term by its own replacement.
abbrev pub ReplacementsInParts : Type 0
ReplacementsInParts = (path rest : List ℕ) (tree t new : Term) → At tree path ≡ Some t → Put tree (path ++ rest) new ≡ Put tree path (Put t rest new)

-- Where the new term has the first and last nodes and the passing of the old one, and the rules above it stay, the positions that are not at or below it own the same edges in both trees.
abbrev pub OwnedOutsideStays : Type 0
OwnedOutsideStays = (spec : Spec) → HasPlacedItems spec → (tree old new : Term) (path : List ℕ) → At tree path ≡ Some old → RulesStay spec new tree path → SameWays spec (entered_at spec tree path) old new path
    → (from to : Node) → IsOwnedOutside spec tree path from to ↔ IsOwnedOutside spec (Put tree path new) path from to

-- The rules above a replacement stay where those of the nearest eight positions do.
abbrev pub NearRulesSuffice : Type 0
NearRulesSuffice = (spec : Spec) → HasShallowHeads spec → (tree new : Term) (path : List ℕ) → NearRulesStay spec new tree path → RulesStay spec new tree path

-- Where the rules above a replacement stay, the positions that are not at or below it name the same nodes in both trees.
abbrev pub NodesOutsideStay : Type 0
NodesOutsideStay = (spec : Spec) (tree old new : Term) (path : List ℕ) → At tree path ≡ Some old → RulesStay spec new tree path → (n : Node) → IsNodeOutside spec tree path n ↔ IsNodeOutside spec (Put tree path new) path n
