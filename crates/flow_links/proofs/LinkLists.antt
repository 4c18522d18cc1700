-- Nodes and edges by the list of the links of a tree.
use Rattle.std.proofs.Common.{◌≡◌, List, Contains, sym, subst}
use Rattle.std.specs.Prelude.{◌↔◌}
use Rattle.flow_term.specs.declared.graph.Link.{Link}
use Rattle.flow_term.specs.declared.graph.Node.{Node}
use Rattle.flow_term.specs.declared.term.Term.{Term}
use Rattle.flow_syntax.specs.declared.spec.Spec.{Spec}
use Rattle.flow_syntax.specs.declared.spec.TypedSpec.{TypedSpec}
use Rattle.flow_syntax.specs.Graph.{IsLink, IsNode}
use Rattle.flow_syntax.proofs.BoundItems.{bound_items}
use Rattle.flow_links.specs.inner.Ends.{AreLinks, IsEnd}
use Rattle.flow_links.proofs.EndLemmas.{ends_are_nodes}

-- a slice of the list of the links has exactly the links
pub links_as_slice : (spec : Spec) (tree : Term) (links slice : List Link) → slice ≡ links → ((x : Link) → Contains links x ↔ IsLink spec tree x.from x.to) → AreLinks spec tree slice
links_as_slice spec tree links slice same exact = record { each = subst (λ (xs : List Link). (x : Link) → Contains xs x ↔ IsLink spec tree x.from x.to) (sym same) exact }

-- where links begin or end, there are the nodes of a specification without faults
pub ends_of_links : (typed : TypedSpec) (tree : Term) (links slice : List Link) → slice ≡ links → ((x : Link) → Contains links x ↔ IsLink typed.spec tree x.from x.to) → (n : Node)
    → IsEnd slice n ↔ IsNode typed.spec tree n
ends_of_links typed tree links slice same exact n =
    ends_are_nodes typed.spec tree slice (links_as_slice typed.spec tree links slice same exact).each n typed.long_chains (bound_items typed.spec typed.faultless typed.applied_heads)
