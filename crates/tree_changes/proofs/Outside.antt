-- Which constraints a change of the graph can touch.
use Rattle.std.proofs.Common.{[], ◌≡◌, ℕ, Bool, true, false, List, Option, Some, refl, sym, ap, subst, ◌∙◌, inl, inr}
use Rattle.std.specs.Prelude.{◌⊎◌, Contains, IsSome, option_map, option_and_then}
use Rattle.std.specs.Option.{option_map_or}
use Rattle.flow_term.specs.declared.graph.Edge.{Edge}
use Rattle.flow_term.specs.declared.graph.Node.{Node}
use Rattle.flow_term.specs.declared.graph.NodeKind.{NodeKind}
use Rattle.flow_term.specs.declared.graph.NodeKind.TheVariants as kind
use Rattle.flow_term.specs.declared.graph.Unknown.{Unknown}
use Rattle.flow_term.specs.declared.term.Term.{Term}
use Rattle.flow_term.specs.Trees.{At}
use Rattle.flow_syntax.specs.declared.property.Direction.{Direction}
use Rattle.flow_syntax.specs.declared.property.Direction.TheVariants as direction
use Rattle.flow_syntax.specs.declared.property.PropDecl.{PropDecl}
use Rattle.flow_syntax.specs.declared.spec.Spec.{Spec}
use Rattle.flow_syntax.specs.DeclFaults.{direction_of, first_rule, trigger_direction}
use Rattle.flow_syntax.specs.Graph.{IsEdge, IsNode}
use Rattle.flow_match.specs.declared.matched.RuleHit.{RuleHit}
use Rattle.flow_match.specs.Matched.{first_hit}
use Rattle.expr_meaning.specs.Meaning.{property_number}
use Rattle.tree_constraints.specs.declared.constraint.Constraint.{Constraint}
use Rattle.tree_constraints.specs.declared.constraint.Key.{Key}
use Rattle.tree_constraints.specs.declared.constraint.Origin.{Origin}
use Rattle.tree_constraints.specs.declared.constraint.Origin.TheVariants as origin
use Rattle.tree_constraints.specs.Constraints.{IsConstraint, IsKeyOf, along, at_boundary, arrives, comes, constraint_of, hit_of, key_along, ordinary_hit, unknown_at}
use Rattle.flow_syntax.proofs.LinkEnds.{edge_leaves_node, edge_reaches_node}
use Rattle.tree_changes.specs.Changes.{IsGraphChange, IsMatchedAlike, IsOn, on_edge, on_node}
use Rattle.tree_changes.specs.Laws.{OthersStay, SameTermsMatchAlike, WhatIsOnGoneIsGone}

-- a position with the same term is matched alike
pub same_term : SameTermsMatchAlike
same_term spec old new path e u at boundary =
    ap (option_and_then (λ t. first_hit (property_number spec u.property) u.property boundary t u.node.path spec.rules)) (ap (At old) at ∙ e ∙ ap (At new) (sym at))

-- WHAT STAYS

module _ (spec : Spec) (old new : Term) where
  edge_hit : (u : Unknown) (k : NodeKind) → IsMatchedAlike spec old new u.node.path → ordinary_hit spec old u k ≡ ordinary_hit spec new u k
  edge_hit u kind.Node alike = alike u refl false
  edge_hit u kind.Start alike = refl
  edge_hit u kind.End alike = refl

  same_hit : (u : Unknown) (o : Origin) → IsMatchedAlike spec old new u.node.path → hit_of spec old u o ≡ hit_of spec new u o
  same_hit u origin.Boundary alike = alike u refl true
  same_hit u (origin.Along n) alike = edge_hit u u.node.kind alike

  -- a key whose target is matched alike has the same constraint
  same_constraint : (k : Key) → IsMatchedAlike spec old new k.target.node.path → constraint_of spec old k ≡ constraint_of spec new k
  same_constraint k alike =
      ap (λ (hit : Option RuleHit). record { key = k; rule = option_map (λ h. h.rule) hit; bindings = option_map_or (λ h. h.bindings) hit [] }) (same_hit k.target k.origin alike)

arrival : (spec : Spec) (tree : Term) (d : Direction) (from to : Node) → IsEdge spec tree from to → IsNode spec tree (arrives d from to)
arrival spec tree direction.Forward from to h = edge_reaches_node spec tree from to h
arrival spec tree direction.Backward from to h = edge_leaves_node spec tree from to h

module _ (spec : Spec) (old new : Term) (gn an : List Node) (ge ae : List Edge) (changed : List (List ℕ)) (change : IsGraphChange spec old new gn an ge ae changed) where
  abbrev Stays : Key → Type 0
  Stays k = IsOn spec gn ge k ⊎ (Contains changed k.target.node.path ⊎ (IsKeyOf spec new k × IsMatchedAlike spec old new k.target.node.path))

  key_stays : (k : Key) → IsKeyOf spec old k → Stays k
  key_stays k (along p from to hp he e) = elim (change.edges_gone.all (record { from = from; to = to }) he) [
    | inl gone ↦ inl (on_edge p (record { from = from; to = to }) hp gone e)
    | inr stays ↦
        let n : Node = arrives (direction_of spec p) from to in
        elim (change.alike n (arrival spec old (direction_of spec p) from to he) (arrival spec new (direction_of spec p) from to stays)) [
          | inl among ↦ inr (inl (subst (λ (x : Key). Contains changed x.target.node.path) (sym e) among))
          | inr same ↦ inr (inr (along p from to hp stays e, subst (λ (x : Key). IsMatchedAlike spec old new x.target.node.path) (sym e) same))
        ]
  ]
  key_stays k (at_boundary p n hp hn b found e) = elim (change.nodes_gone.all n hn) [
    | inl gone ↦ inl (on_node (subst (λ (x : Key). Contains gn x.target.node) (sym e) gone) (ap (λ (x : Key). x.origin) e))
    | inr stays ↦ elim (change.alike n hn stays) [
      | inl among ↦ inr (inl (subst (λ (x : Key). Contains changed x.target.node.path) (sym e) among))
      | inr same ↦ inr (inr (
        at_boundary p n hp stays b (subst (λ (o : Option RuleHit). IsSome o) (same (unknown_at n p.name.text) refl true) found) e,
        subst (λ (x : Key). IsMatchedAlike spec old new x.target.node.path) (sym e) same,
      ))
    ]
  ]

  constraint_stays : (c : Constraint) → IsConstraint spec old c → Stays c.key → IsOn spec gn ge c.key ⊎ (Contains changed c.key.target.node.path ⊎ IsConstraint spec new c)
  constraint_stays c is (inl on) = inl on
  constraint_stays c is (inr (inl among)) = inr (inl among)
  constraint_stays c is (inr (inr stays)) = inr (inr (record { key = stays.0; whole = is.whole ∙ same_constraint spec old new c.key stays.1 }))

pub outside_stays : OthersStay
outside_stays spec old new gn an ge ae changed change c is = constraint_stays spec old new gn an ge ae changed change c is (key_stays spec old new gn an ge ae changed change c.key is.key)

-- WHAT IS ON THE GONE PART

-- the edge of a constraint, by the direction of its property
direction_by_name : (spec : Spec) (p q : PropDecl) → p.name.text ≡ q.name.text → direction_of spec p ≡ direction_of spec q
direction_by_name spec p q e = ap (λ x. option_map_or (λ rule. trigger_direction rule.trigger) (first_rule spec x) direction.Forward) e

same_along : (m n : Node) → origin.Along m ≡ origin.Along n → m ≡ n
same_along m n h = ap (λ o. node_in o m) h
  where
    node_in : Origin → Node → Node
    node_in (origin.Along x) d = x
    node_in origin.Boundary d = d

edge_back : (spec : Spec) (tree : Term) (d : Direction) (from to m n : Node) → arrives d from to ≡ arrives d m n → comes d from to ≡ comes d m n → IsEdge spec tree from to → IsEdge spec tree m n
edge_back spec tree direction.Forward from to m n a c h = subst (λ (x : Node). IsEdge spec tree m x) a (subst (λ (x : Node). IsEdge spec tree x to) c h)
edge_back spec tree direction.Backward from to m n a c h = subst (λ (x : Node). IsEdge spec tree m x) c (subst (λ (x : Node). IsEdge spec tree x to) a h)

-- the edge that a key names is an edge of the tree that has the key
key_edge : (spec : Spec) (tree : Term) (k : Key) (p : PropDecl) (e : Edge) → k ≡ key_along p (direction_of spec p) e.from e.to → IsKeyOf spec tree k → IsEdge spec tree e.from e.to
key_edge spec tree k p e h (along q from to hq he ek) =
    let keys : key_along q (direction_of spec q) from to ≡ key_along p (direction_of spec p) e.from e.to = sym ek ∙ h in
    let names : q.name.text ≡ p.name.text = ap (λ (x : Key). x.target.property) keys in
    let d : direction_of spec q ≡ direction_of spec p = direction_by_name spec q p names in
    edge_back spec tree (direction_of spec p) from to e.from e.to
    (ap (λ d. arrives d from to) (sym d) ∙ ap (λ (x : Key). x.target.node) keys)
    (ap (λ d. comes d from to) (sym d) ∙ same_along (comes (direction_of spec q) from to) (comes (direction_of spec p) e.from e.to) (ap (λ (x : Key). x.origin) keys)) he
key_edge spec tree k p e h (at_boundary q n hq hn b found ek) = let no : origin.Boundary ≡ origin.Along (comes (direction_of spec p) e.from e.to) = ap (λ (x : Key). x.origin) (sym ek ∙ h) in cc

key_node : (spec : Spec) (tree : Term) (k : Key) → k.origin ≡ origin.Boundary → IsKeyOf spec tree k → IsNode spec tree k.target.node
key_node spec tree k b (along q from to hq he ek) = let no : origin.Along (comes (direction_of spec q) from to) ≡ origin.Boundary = ap (λ (x : Key). x.origin) (sym ek) ∙ b in cc
key_node spec tree k b (at_boundary q n hq hn at found ek) = subst (λ (x : Key). IsNode spec tree x.target.node) (sym ek) hn

pub on_gone_is_gone : WhatIsOnGoneIsGone
on_gone_is_gone spec old new gn an ge ae changed change k (on_edge p e hp among key) h = (change.edges_gone.only e among).1 (key_edge spec new k p e key h)
on_gone_is_gone spec old new gn an ge ae changed change k (on_node among b) h = (change.nodes_gone.only k.target.node among).1 (key_node spec new k b h)
