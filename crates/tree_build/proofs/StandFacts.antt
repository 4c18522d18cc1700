-- A node stands at a position of its tree.
use Rattle.std.proofs.Common.{◌≡◌, ◌≢◌, ℕ, ◌+◌, ◌<◌, Bool, true, false, List, [], ◌∷◌, Option, Some, None, cond, get_or, length, refl, sym, ap, ◌∙◌, arith}
use Rattle.std.specs.Prelude.{All, slice_get, option_map}
use Rattle.std.specs.List.{position_from}
use Rattle.std.proofs.lemmas.List.Elements.{Contains-get_or}
use Rattle.std.proofs.lemmas.Option.{same_Some, slice_get-get_or}
use Rattle.flow_term.specs.declared.graph.Node.{Node}
use Rattle.flow_term.specs.declared.graph.NodeKind.{NodeKind}
use Rattle.flow_term.specs.declared.graph.NodeKind.TheVariants as kind
use Rattle.flow_term.specs.declared.graph.Point.{Point}
use Rattle.flow_term.specs.declared.graph.Point.TheVariants as point
use Rattle.flow_term.specs.declared.term.Term.{Term}
use Rattle.flow_term.specs.Trees.{At, children}
use Rattle.flow_syntax.specs.declared.rule.FlowRule.{FlowRule}
use Rattle.flow_syntax.specs.declared.rule.ItemKind.{ItemKind}
use Rattle.flow_syntax.specs.declared.rule.ItemKind.TheVariants as item
use Rattle.flow_syntax.specs.declared.spec.Spec.{Spec}
use Rattle.flow_syntax.specs.Control.{argument, arguments_in, is_variable_in, rule_for}
use Rattle.flow_syntax.specs.Graph.{IsNode, below, leaving, point_of, point_of_kind}
use Rattle.flow_syntax.specs.Matching.{matches, pattern_layer}
use Rattle.flow_syntax.proofs.Matches.{few_arguments, found_passes}
use Rattle.tree_constraints.proofs.Bindings.{at_child}
use Rattle.tree_listing.specs.Given.{AreNodes}

-- the path at which a point stands
abbrev path_of : Point → List ℕ
path_of (point.In path) = path
path_of (point.Out path) = path
path_of (point.Node path) = path
path_of (point.Start path) = path
path_of (point.End path) = path

path_of_kind : (k : NodeKind) (path : List ℕ) → path_of (point_of_kind k path) ≡ path
path_of_kind kind.Start path = refl
path_of_kind kind.Node path = refl
path_of_kind kind.End path = refl

place_within : {X : Type 0} (p : X → Bool) (n : ℕ) (xs : List X) (k : ℕ) → position_from p n xs ≡ Some k → k < n + length xs
place_within p n [] k e = cc
place_within {X = X} p n (x ∷ xs) k e = by (p x) e (place_within p (n + 1) xs k)
  where
    by : (b : Bool) → cond b (Some n) (position_from p (n + 1) xs) ≡ Some k → (position_from p (n + 1) xs ≡ Some k → k < n + 1 + length xs) → k < n + length (x ∷ xs)
    by true e later = let same : n ≡ k = same_Some n k e in omega (arith, same)
    by false e later = let within : k < n + 1 + length xs = later e in omega (arith, within)

module _ (spec : Spec) (tree : Term) (n : Node) (path : List ℕ) (rule : FlowRule) (t : Term) (at : At tree path ≡ Some t) (is_rule : rule_for spec t ≡ Some rule) where
  here : path ≡ n.path → At tree n.path ≢ None
  here e none = let no : Some t ≡ None = sym at ∙ ap (At tree) e ∙ none in cc

  own : (f : List ℕ → Point) → ((p : List ℕ) → path_of (f p) ≡ p) → Some (f path) ≡ Some (point_of n) → At tree n.path ≢ None
  own f is e = here (sym (is path) ∙ ap path_of (same_Some (f path) (point_of n) e) ∙ path_of_kind n.kind n.path)

  child_there : (k : ℕ) → k < length (children t) → slice_get (children t) k ≡ None → ⊥
  child_there k within none = let is = slice_get-get_or (children t) k t within in let no : Some (get_or (children t) k t) ≡ None = sym is ∙ none in cc

  named : (f : List ℕ → Point) → ((p : List ℕ) → path_of (f p) ≡ p) → (x : List ℕ) (o : Option ℕ) → argument rule x ≡ o → option_map f (option_map (below path) o) ≡ Some (point_of n) → At tree n.path ≢ None
  named f is x None called e = cc
  named f is x (Some k) called e =
      let within : k < length (children t) =
      omega (arith, place_within (λ p. is_variable_in x (pattern_layer p)) 0 (arguments_in (pattern_layer rule.head)) k called, few_arguments rule.head t (found_passes (λ (r : FlowRule). matches r.head t) spec.control rule is_rule)) in
      let path_is : below path k ≡ n.path = sym (is (below path k)) ∙ ap path_of (same_Some (f (below path k)) (point_of n) e) ∙ path_of_kind n.kind n.path in
      λ none. child_there k within (sym (at_child tree path t k at) ∙ ap (At tree) path_is ∙ none)

  by_item : (it : ItemKind) → leaving rule path it ≡ Some (point_of n) → At tree n.path ≢ None
  by_item item.Entry e = own point.In (λ p. refl) e
  by_item item.Exit e = own point.Out (λ p. refl) e
  by_item item.Start e = own point.Start (λ p. refl) e
  by_item item.End e = own point.End (λ p. refl) e
  by_item item.This e = own point.Node (λ p. refl) e
  by_item (item.Whole x) e = named point.Out (λ p. refl) x (argument rule x) refl e
  by_item (item.Single x) e = named point.Node (λ p. refl) x (argument rule x) refl e

pub node_stands : (spec : Spec) (tree : Term) (n : Node) → IsNode spec tree n → At tree n.path ≢ None
node_stands spec tree n is = by_item spec tree n is.path is.rule is.counts.t is.counts.position is.counts.counts.0 is.it.kind is.named

pub nodes_stand : (spec : Spec) (tree : Term) (nodes : List Node) → AreNodes spec tree nodes → All (λ n. At tree n.path ≢ None) nodes
nodes_stand spec tree nodes are k d within = node_stands spec tree (get_or nodes k d) ((are.exactly (get_or nodes k d)).0 (Contains-get_or nodes k d within))
