-- The listed constraints, piece by piece.
use Rattle.std.proofs.Common.{◌≡◌, ℕ, zero, suc, ◌<◌, ◌+◌, List, [], ◌∷◌, ◌++◌, Option, length, get_or, take, map, sym, ap, ◌∙◌, arith, append_assoc, append-nil}
use Rattle.std.specs.Prelude.{All}
use Rattle.std.specs.List.{flat_map}
use Rattle.std.proofs.lemmas.List.{flat_map_more, take_more}
use Rattle.std.proofs.lemmas.Simd.{map-map}
use Rattle.std.proofs.lemmas.List.Elements.{Contains-get_or}
use Rattle.flow_term.specs.declared.graph.Edge.{Edge}
use Rattle.flow_term.specs.declared.graph.Node.{Node}
use Rattle.flow_term.specs.declared.term.Term.{Term}
use Rattle.flow_syntax.specs.declared.spec.Spec.{Spec}
use Rattle.flow_syntax.proofs.LinkEnds.{edge_leaves_node, edge_reaches_node}
use Rattle.flow_match.specs.declared.matched.RuleHit.{RuleHit}
use Rattle.tree_constraints.specs.declared.constraint.Constraint.{Constraint}
use Rattle.tree_constraints.specs.declared.constraint.Origin.TheVariants as origin
use Rattle.tree_constraints.specs.Constraints.{unknown_at}
use Rattle.tree_listing.specs.declared.property.Property.{Property}
use Rattle.tree_listing.specs.Given.{AreNodes, AreEdges}
use Rattle.tree_listing.specs.Listing.{constraint_by, origins}
use Rattle.tree_build.specs.Ends.{no_property}
use Rattle.tree_build.specs.Numbers.{HasEnds, no_node, node_of}
use Rattle.tree_build.specs.inner.Hits.{boundary_by, listed_at_each, listed_by, ordinary_in}

-- what is added at a property and a node
pub added_at : (hits : List RuleHit) (declared : ℕ) (p : Property) (nodes : List Node) (n v : Node) (row : List ℕ) (hit : Option RuleHit) (before mid after : List Constraint) → v ≡ n
    → hit ≡ ordinary_in hits declared v.kind → mid ≡ before ++ boundary_by hits declared v p
    → after ≡ mid ++ map (λ i. constraint_by hit (unknown_at v p.name) (origin.Along (node_of nodes i))) row
    → (edges : List Edge) → map (node_of nodes) row ≡ origins p.direction edges n → after ≡ before ++ listed_by hits declared edges n p
added_at hits declared p nodes n v row hit before mid after ev eh em ea edges er =
    let along : map (λ i. constraint_by hit (unknown_at v p.name) (origin.Along (node_of nodes i))) row ≡ map (λ o. constraint_by (ordinary_in hits declared n.kind) (unknown_at n p.name) (origin.Along o)) (origins p.direction edges n) =
    ap (λ (h : Option RuleHit). map (λ i. constraint_by h (unknown_at v p.name) (origin.Along (node_of nodes i))) row) eh
    ∙ ap (λ (m : Node). map (λ i. constraint_by (ordinary_in hits declared m.kind) (unknown_at m p.name) (origin.Along (node_of nodes i))) row) ev
    ∙ sym (map-map (λ o. constraint_by (ordinary_in hits declared n.kind) (unknown_at n p.name) (origin.Along o)) (node_of nodes) row)
    ∙ ap (map (λ o. constraint_by (ordinary_in hits declared n.kind) (unknown_at n p.name) (origin.Along o))) er in
    ea ∙ (λ i. em i ++ along i)
    ∙ ap (λ (m : Node). (before ++ boundary_by hits declared m p) ++ map (λ o. constraint_by (ordinary_in hits declared n.kind) (unknown_at n p.name) (origin.Along o)) (origins p.direction edges n)) ev
    ∙ append_assoc before (boundary_by hits declared n p) (map (λ o. constraint_by (ordinary_in hits declared n.kind) (unknown_at n p.name) (origin.Along o)) (origins p.direction edges n))

-- one property more
each_more : (hits : List RuleHit) (edges : List Edge) (n : Node) (numbers : List ℕ) (ps : List Property) (j : ℕ) → j < length ps → length numbers ≡ length ps
    → listed_at_each hits (take (j + 1) numbers) (take (j + 1) ps) edges n ≡ listed_at_each hits (take j numbers) (take j ps) edges n ++ listed_by hits (get_or numbers j 0) edges n (get_or ps j no_property)
each_more hits edges n numbers [] j within same = absurd (omega (arith, within))
each_more hits edges n [] (p ∷ ps) j within same = absurd (omega (arith, same))
each_more hits edges n (declared ∷ numbers) (p ∷ ps) zero within same = append-nil (listed_by hits declared edges n p)
each_more hits edges n (declared ∷ numbers) (p ∷ ps) (suc j) within same =
    let next : suc j + 1 ≡ suc (j + 1) = omega arith in
    let rest : length numbers ≡ length ps = omega (arith, same) in
    ap (λ k. listed_at_each hits (take k (declared ∷ numbers)) (take k (p ∷ ps)) edges n) next
    ∙ ap (λ xs. listed_by hits declared edges n p ++ xs) (each_more hits edges n numbers ps j (omega (arith, within)) rest)
    ∙ sym (append_assoc (listed_by hits declared edges n p) (listed_at_each hits (take j numbers) (take j ps) edges n) (listed_by hits (get_or numbers j 0) edges n (get_or ps j no_property)))

pub property_more : (hits : List RuleHit) (edges : List Edge) (n : Node) (numbers : List ℕ) (ps : List Property) (j declared : ℕ) (p : Property) (before mid after : List Constraint)
    → j < length ps → length numbers ≡ length ps → declared ≡ get_or numbers j 0 → p ≡ get_or ps j no_property
    → mid ≡ before ++ listed_at_each hits (take j numbers) (take j ps) edges n → after ≡ mid ++ listed_by hits declared edges n p
    → after ≡ before ++ listed_at_each hits (take (j + 1) numbers) (take (j + 1) ps) edges n
property_more hits edges n numbers ps j declared p before mid after within same is_number is_property em ea =
    ea ∙ (λ i. em i ++ listed_by hits (is_number i) edges n (is_property i))
    ∙ append_assoc before (listed_at_each hits (take j numbers) (take j ps) edges n) (listed_by hits (get_or numbers j 0) edges n (get_or ps j no_property))
    ∙ ap (λ xs. before ++ xs) (sym (each_more hits edges n numbers ps j within same))

-- one node more
pub node_more : (f : Node → List Constraint) (nodes : List Node) (i : ℕ) (before after : List Constraint) → i < length nodes → before ≡ flat_map f (take i nodes) → after ≡ before ++ f (node_of nodes i) → after ≡ flat_map f (take (i + 1) nodes)
node_more f nodes i before after within eb ea =
    ea ∙ ap (λ xs. xs ++ f (node_of nodes i)) eb ∙ flat_map_more f [] (take i nodes) (node_of nodes i) ∙ ap (flat_map f) (sym (take_more nodes i no_node within))

-- the ends of a tree's edges are nodes of it
pub have_ends : (spec : Spec) (tree : Term) (nodes : List Node) (edges : List Edge) → AreNodes spec tree nodes → AreEdges spec tree edges → All (HasEnds nodes) edges
have_ends spec tree nodes edges ns es k d within =
    let e : Edge = get_or edges k d in
    let is = (es.exactly e).0 (Contains-get_or edges k d within) in
    ((ns.exactly e.from).1 (edge_leaves_node spec tree e.from e.to is), (ns.exactly e.to).1 (edge_reaches_node spec tree e.from e.to is))
