-- One constraint a key, one list a tree, and all that constraints aim at and read is in use.
use Rattle.std.proofs.Common.{◌≡◌, ℕ, zero, suc, ◌+◌, Bool, true, List, [], ◌∷◌, Option, Some, None, map, filter, refl, sym, ap, subst, ◌∙◌, inl, inr, arith}
use Rattle.std.specs.Prelude.{Contains, slice_get}
use Rattle.std.specs.Option.{option_map_or}
use Rattle.std.proofs.lemmas.List.Elements.{Contains-append_left, Contains-append_right, Contains-append_cases}
use Rattle.flow_term.specs.declared.graph.Node.{Node}
use Rattle.flow_term.specs.declared.graph.Unknown.{Unknown}
use Rattle.flow_term.specs.declared.term.Term.{Term}
use Rattle.flow_syntax.specs.declared.expr.Side.{Side}
use Rattle.flow_syntax.specs.declared.expr.Side.TheVariants as side
use Rattle.flow_syntax.specs.declared.property.Direction.{Direction}
use Rattle.flow_syntax.specs.declared.property.Direction.TheVariants as direction
use Rattle.flow_syntax.specs.declared.property.PropDecl.{PropDecl}
use Rattle.flow_syntax.specs.declared.property.PropRule.{PropRule}
use Rattle.flow_syntax.specs.declared.spec.Spec.{Spec}
use Rattle.flow_syntax.specs.DeclFaults.{direction_of}
use Rattle.flow_syntax.specs.Graph.{IsEdge, IsNode}
use Rattle.flow_syntax.proofs.LinkEnds.{edge_leaves_node, edge_reaches_node}
use Rattle.typed_bodies.specs.Anywhere.{reads_at}
use Rattle.list_theory.specs.Lists.{has, distinct}
use Rattle.tree_constraints.specs.declared.constraint.Constraint.{Constraint}
use Rattle.tree_constraints.specs.declared.constraint.Key.{Key}
use Rattle.tree_constraints.specs.Constraints.{arrives, comes, unknown_at, IsUnknownOf, IsKeyOf, along, at_boundary, IsConstraint, constraint_of, source, node_at, copied, rule_of, sides, reads_from, reads_of}
use Rattle.tree_constraints.specs.Laws.{KeysAreOwn, ConstraintsAreOne, UnknownsAreOne}
use Rattle.tree_constraints.specs.Orders.{by_parts, constraint_cmp, unknown_cmp}
use Rattle.tree_constraints.specs.Solutions.{AreConstraints, AreUnknowns}
use Rattle.tree_constraints.proofs.Exact.{parts_tell, unknown_ties, unknown_flips, key_ties, key_flips}
use Rattle.tree_constraints.proofs.Lists.{none_in_nil, at_head, in_tail, cons_cases, filter_has, map_has, map_from, same_lists, has_from, contains_from, distinct_sorted}

pub keys_own : KeysAreOwn
keys_own spec tree c d hc hd e = hc.whole ∙ ap (constraint_of spec tree) e ∙ sym hd.whole

pub constraints_one : ConstraintsAreOne
constraints_one spec tree cs ds hc hd =
    same_lists constraint_cmp (λ c. key_ties c.key) (λ c d. key_flips c.key d.key) cs ds hc.ordered hd.ordered (λ c. (λ h. (hd.exactly c).1 ((hc.exactly c).0 h), λ h. (hc.exactly c).1 ((hd.exactly c).0 h)))

pub unknowns_one : UnknownsAreOne
unknowns_one spec tree us vs hu hv =
    same_lists unknown_cmp unknown_ties unknown_flips us vs hu.ordered hv.ordered (λ u. (λ h. (hv.exactly u).1 ((hu.exactly u).0 h), λ h. (hu.exactly u).1 ((hv.exactly u).0 h)))

-- WHAT IS READ

side_listed : (s : Side) → Contains sides s
side_listed side.This = at_head side.This (side.Prev ∷ side.Next ∷ [])
side_listed side.Prev = in_tail side.This (side.Prev ∷ side.Next ∷ []) side.Prev (at_head side.Prev (side.Next ∷ []))
side_listed side.Next = in_tail side.This (side.Prev ∷ side.Next ∷ []) side.Next (in_tail side.Prev (side.Next ∷ []) side.Next (at_head side.Next []))

module _ (k : Key) (is_read : ℕ → Side → Bool) where
  -- each is a declared property at the node of a side
  reads_are : (n : ℕ) (ps : List PropDecl) (u : Unknown) → Contains (reads_from k is_read n ps) u → (s : Side) × (p : PropDecl) × Contains ps p × (unknown_at (node_at k s) p.name.text ≡ u)
  reads_are n [] u h = absurd (none_in_nil u h)
  reads_are n (p ∷ ps) u h = elim (Contains-append_cases (map (λ s. unknown_at (node_at k s) p.name.text) (filter (is_read n) sides)) (reads_from k is_read (n + 1) ps) u h) [
    | inl here ↦ let found = map_from (λ s. unknown_at (node_at k s) p.name.text) (filter (is_read n) sides) u here in (found.0, p, at_head p ps, found.2)
    | inr later ↦ let found = reads_are (n + 1) ps u later in (found.0, found.1, in_tail p ps found.1 found.2, found.3)
  ]

  -- and all that is read is there
  pub reads_have : (n : ℕ) (ps : List PropDecl) (i : ℕ) (p : PropDecl) (s : Side) → slice_get ps i ≡ Some p → is_read (n + i) s ≡ true → Contains (reads_from k is_read n ps) (unknown_at (node_at k s) p.name.text)
  reads_have n [] i p s at reads = cc
  reads_have n (q ∷ ps) zero p s at reads =
      let same : q ≡ p = cc in
      let now : is_read n s ≡ true = sym (ap (λ m. is_read m s) (omega arith)) ∙ reads in
      Contains-append_left (map (λ s. unknown_at (node_at k s) q.name.text) (filter (is_read n) sides)) (reads_from k is_read (n + 1) ps) (unknown_at (node_at k s) p.name.text)
      (subst (λ (r : PropDecl). Contains (map (λ s. unknown_at (node_at k s) q.name.text) (filter (is_read n) sides)) (unknown_at (node_at k s) r.name.text)) same
      (map_has (λ s. unknown_at (node_at k s) q.name.text) (filter (is_read n) sides) s (filter_has (is_read n) sides s (side_listed s) now)))
  reads_have n (q ∷ ps) (suc i) p s at reads =
      Contains-append_right (map (λ s. unknown_at (node_at k s) q.name.text) (filter (is_read n) sides)) (reads_from k is_read (n + 1) ps) (unknown_at (node_at k s) p.name.text)
      (reads_have (n + 1) ps i p s at (ap (λ m. is_read m s) (omega arith) ∙ reads))

-- WHAT IS IN USE

module _ (spec : Spec) (tree : Term) where
  arrival : (d : Direction) (from to : Node) → IsEdge spec tree from to → IsNode spec tree (arrives d from to)
  arrival direction.Forward from to h = edge_reaches_node spec tree from to h
  arrival direction.Backward from to h = edge_leaves_node spec tree from to h

  coming : (d : Direction) (from to : Node) → IsEdge spec tree from to → IsNode spec tree (comes d from to)
  coming direction.Forward from to h = edge_leaves_node spec tree from to h
  coming direction.Backward from to h = edge_reaches_node spec tree from to h

  pub target_used : (k : Key) → IsKeyOf spec tree k → IsUnknownOf spec tree k.target
  target_used k (along p from to hp he e) = subst (λ (k : Key). IsUnknownOf spec tree k.target) (sym e) (record { node = arrival (direction_of spec p) from to he; property = p; declared = hp; named = refl })
  target_used k (at_boundary p n hp hn b r e) = subst (λ (k : Key). IsUnknownOf spec tree k.target) (sym e) (record { node = hn; property = p; declared = hp; named = refl })

  source_used : (k : Key) → IsKeyOf spec tree k → IsNode spec tree (source k.target.node k.origin)
  source_used k (along p from to hp he e) = subst (λ (k : Key). IsNode spec tree (source k.target.node k.origin)) (sym e) (coming (direction_of spec p) from to he)
  source_used k (at_boundary p n hp hn b r e) = subst (λ (k : Key). IsNode spec tree (source k.target.node k.origin)) (sym e) hn

  side_used : (k : Key) → IsKeyOf spec tree k → (s : Side) → IsNode spec tree (node_at k s)
  side_used k is side.This = (target_used k is).node
  side_used k is side.Prev = source_used k is
  side_used k is side.Next = source_used k is

  -- a declared property at a side is an unknown of the tree
  pub property_used : (k : Key) → IsKeyOf spec tree k → (s : Side) (p : PropDecl) → Contains spec.properties p → IsUnknownOf spec tree (unknown_at (node_at k s) p.name.text)
  property_used k is s p among = record { node = side_used k is s; property = p; declared = among; named = refl }

  pub copied_used : (k : Key) → IsKeyOf spec tree k → IsUnknownOf spec tree (copied k)
  copied_used k is = let t = target_used k is in record { node = source_used k is; property = t.property; declared = t.declared; named = t.named }

  reads_used_by : (k : Key) → IsKeyOf spec tree k → (o : Option PropRule) (u : Unknown) → Contains (option_map_or (λ rule. reads_from k (reads_at spec rule.body) 0 spec.properties) o (copied k ∷ [])) u → IsUnknownOf spec tree u
  reads_used_by k is None u h = elim (cons_cases (copied k) [] u h) [
    | inl e ↦ subst (IsUnknownOf spec tree) e (copied_used k is)
    | inr rest ↦ absurd (none_in_nil u rest)
  ]
  reads_used_by k is (Some rule) u h =
      let found = reads_are k (reads_at spec rule.body) 0 spec.properties u h in
      subst (IsUnknownOf spec tree) found.3 (property_used k is found.0 found.1 found.2)

  pub reads_used : (c : Constraint) → IsConstraint spec tree c → (u : Unknown) → Contains (reads_of spec c) u → IsUnknownOf spec tree u
  reads_used c is u h = reads_used_by c.key is.key (rule_of spec c) u h

  module _ (cs : List Constraint) (us : List Unknown) (hc : AreConstraints spec tree cs) (hu : AreUnknowns spec tree us) where
    pub listed_constraint : (c : Constraint) → has by_parts.key cs c ≡ true → IsConstraint spec tree c
    listed_constraint c h = (hc.exactly c).0 (contains_from by_parts.key parts_tell.keys cs c h)

    pub listed_unknown : (u : Unknown) → IsUnknownOf spec tree u → has by_parts.unknown us u ≡ true
    listed_unknown u h = has_from by_parts.unknown parts_tell.unknowns us u ((hu.exactly u).1 h)

    pub once : distinct by_parts.key cs ≡ true
    once = distinct_sorted by_parts.key parts_tell.keys constraint_cmp (λ c. key_ties c.key) cs hc.ordered

    pub target_listed : (c : Constraint) → has by_parts.key cs c ≡ true → has by_parts.unknown us c.key.target ≡ true
    target_listed c h = listed_unknown c.key.target (target_used c.key (listed_constraint c h).key)

    pub reads_listed : (c : Constraint) (u : Unknown) → has by_parts.key cs c ≡ true → has by_parts.unknown (reads_of spec c) u ≡ true → has by_parts.unknown us u ≡ true
    reads_listed c u h r = listed_unknown u (reads_used c (listed_constraint c h) u (contains_from by_parts.unknown parts_tell.unknowns (reads_of spec c) u r))
