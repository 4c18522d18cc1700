-- A tree has one solution.
use Rattle.std.proofs.Common.{◌≡◌, List, [], ◌∷◌, map, refl, sym, ap, ◌∙◌}
use Rattle.std.specs.Prelude.{◌↔◌, Contains}
use Rattle.std.specs.Cmp.{IsTotalOrder, then_total, on_total, nat_cmp_total}
use Rattle.std.specs.Cmp.Lexicographic.{nat_list_cmp_total}
use Rattle.std.specs.List.Sorted.{IsStrictlySortedBy}
use Rattle.std.specs.Ordering.{ordering_reverse}
use Rattle.std.specs.declared.cmp.Ordering.{Ordering}
use Rattle.std.specs.declared.cmp.Ordering.TheVariants.{Less, Equal, Greater}
use Rattle.flow_term.specs.declared.graph.Edge.{Edge}
use Rattle.flow_term.specs.declared.graph.Node.{Node}
use Rattle.flow_term.specs.declared.graph.Unknown.{Unknown}
use Rattle.flow_term.specs.declared.term.Term.{Term}
use Rattle.flow_term.specs.declared.value.Value.{Value}
use Rattle.flow_term.specs.declared.value.Valued.{Valued}
use Rattle.flow_term.specs.Orders.{edge_cmp, node_cmp, rank}
use Rattle.flow_syntax.specs.declared.spec.Spec.{Spec}
use Rattle.flow_syntax.specs.Types.{Typing}
use Rattle.tree_constraints.specs.Laws.{IsAnalysed}
use Rattle.tree_constraints.proofs.Facts.{unknowns_one}
use Rattle.tree_constraints.proofs.Lists.{at_head, in_tail, same_lists}
use Rattle.tree_constraints.proofs.Monotone.{solutions_one as assignments_one}
use Rattle.tree_listing.specs.Given.{AreEdges, AreNodes}
use Rattle.flow_cert.specs.Laws.{SolutionsAreOne}
use Rattle.flow_cert.specs.Solved.{AreValues, valued_by}

-- ** what exactly the same things are in, in order

pub node_total : IsTotalOrder node_cmp
node_total = then_total (on_total (λ (n : Node). n.path) nat_list_cmp_total) (on_total (λ (n : Node). rank n.kind) nat_cmp_total)

pub edge_total : IsTotalOrder edge_cmp
edge_total = then_total (on_total (λ (e : Edge). e.from) node_total) (on_total (λ (e : Edge). e.to) node_total)

tie : (o : Ordering) → o ≡ ordering_reverse o → o ≡ Equal
tie Less h = cc
tie Equal h = refl
tie Greater h = cc

module _ {X : Type 0} (R : X → X → Ordering) (total : IsTotalOrder R) (Is : X → Type 0) where
  pub one_list : (xs ys : List X) → IsStrictlySortedBy R xs → IsStrictlySortedBy R ys → ((x : X) → Contains xs x ↔ Is x) → ((x : X) → Contains ys x ↔ Is x) → xs ≡ ys
  one_list xs ys s t exactly also =
      same_lists R (λ x. tie (R x x) (total.antisymm x x)) total.antisymm xs ys s t (λ x. (λ h. (also x).1 ((exactly x).0 h), λ h. (exactly x).1 ((also x).0 h)))

pub nodes_one : (spec : Spec) (tree : Term) (ns ms : List Node) → AreNodes spec tree ns → AreNodes spec tree ms → ns ≡ ms
nodes_one spec tree ns ms a b = one_list node_cmp node_total _ ns ms a.ordered b.ordered a.exactly b.exactly

pub edges_one : (spec : Spec) (tree : Term) (es fs : List Edge) → AreEdges spec tree es → AreEdges spec tree fs → es ≡ fs
edges_one spec tree es fs a b = one_list edge_cmp edge_total _ es fs a.ordered b.ordered a.exactly b.exactly

-- ** values

map_same : {X Y : Type 0} (f g : X → Y) (xs : List X) → ((x : X) → Contains xs x → f x ≡ g x) → map f xs ≡ map g xs
map_same f g [] h = refl
map_same f g (x ∷ xs) h = λ i. h x (at_head x xs) i ∷ map_same f g xs (λ y c. h y (in_tail x xs y c)) i

abbrev valued : Unknown → Value → Valued
valued u v = record { unknown = u; value = v }

values_one : (spec : Spec) (types : List Typing) → IsAnalysed spec types → (tree : Term) (vs ws : List Valued) → AreValues spec types tree vs → AreValues spec types tree ws → vs ≡ ws
values_one spec types analysed tree vs ws a b =
    a.valued
    ∙ map_same (valued_by a.assignment) (valued_by b.assignment) a.unknowns (λ u c. ap (valued u) (assignments_one spec types analysed tree a.assignment b.assignment a.solves b.solves u ((a.are_unknowns.exactly u).0 c)))
    ∙ ap (map (valued_by b.assignment)) (unknowns_one spec tree a.unknowns b.unknowns a.are_unknowns b.are_unknowns) ∙ sym b.valued

pub solutions_one : SolutionsAreOne
solutions_one spec types analysed tree s t a b =
    let nodes : s.nodes ≡ t.nodes = nodes_one spec tree s.nodes t.nodes a.nodes b.nodes in
    let edges : s.edges ≡ t.edges = edges_one spec tree s.edges t.edges a.edges b.edges in
    let values : s.values ≡ t.values = values_one spec types analysed tree s.values t.values a.values b.values in
    λ i. record { nodes = nodes i; edges = edges i; values = values i }
