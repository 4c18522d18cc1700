-- The nodes of a tree are the ends of its links.
use Rattle.std.proofs.Common.{◌≡◌, ℕ, ◌+◌, ◌-◌, ◌<◌, ◌≤◌, List, [], ◌∷◌, ◌++◌, length, get_or, Option, Some, None, refl, sym, ap, subst, ◌∙◌, inl, inr, arith}
use Rattle.std.specs.Prelude.{◌⊎◌, ◌↔◌, Contains, slice_get, option_map}
use Rattle.std.proofs.Math.Nat.{eq-or-lt_of_le}
use Rattle.std.proofs.lemmas.Option.{slice_get-get_or}
use Rattle.std.proofs.lemmas.List.Elements.{Contains-get_or, Contains-push, Contains-push_cases, Contains-append_left}
use Rattle.flow_term.specs.declared.graph.Point.{Point}
use Rattle.flow_term.specs.declared.graph.Point.TheVariants as point
use Rattle.flow_term.specs.declared.graph.Link.{Link}
use Rattle.flow_term.specs.declared.graph.Node.{Node}
use Rattle.flow_term.specs.declared.graph.NodeKind.{NodeKind}
use Rattle.flow_term.specs.declared.graph.NodeKind.TheVariants as kind
use Rattle.flow_term.specs.declared.term.Term.{Term}
use Rattle.flow_syntax.specs.declared.spec.Spec.{Spec}
use Rattle.flow_syntax.specs.declared.rule.FlowRule.{FlowRule}
use Rattle.flow_syntax.specs.declared.rule.Item.{Item}
use Rattle.flow_syntax.specs.declared.rule.ItemKind.{ItemKind}
use Rattle.flow_syntax.specs.declared.rule.ItemKind.TheVariants as item
use Rattle.flow_syntax.specs.Matching.{matches}
use Rattle.flow_syntax.specs.Control.{argument, HasLongChains, HasBoundItems, IsUnboundItem}
use Rattle.flow_syntax.specs.Graph.{IsLink, IsNode, in_chain, leaving, arriving, point_of, point_of_kind, below}
use Rattle.flow_syntax.proofs.LinkEnds.{link_from, link_to, mapped_inner}
use Rattle.flow_syntax.proofs.Matches.{found_among}
use Rattle.flow_links.specs.Below.{link}
use Rattle.flow_links.specs.inner.Ends.{IsEnd}
use Rattle.flow_links.proofs.SetLemmas.{none_in_nil}

same_node : (k l : NodeKind) (p q : List ℕ) → point_of_kind k p ≡ point_of_kind l q → (k ≡ l) × (p ≡ q)
same_node kind.Start kind.Start p q h = (refl, cc)
same_node kind.Node kind.Node p q h = (refl, cc)
same_node kind.End kind.End p q h = (refl, cc)
same_node _ _ p q h = cc

-- one point is one node
pub point_of_injective : (m n : Node) → point_of m ≡ point_of n → m ≡ n
point_of_injective m n h =
    let same : (m.kind ≡ n.kind) × (m.path ≡ n.path) = same_node m.kind n.kind m.path n.path h in
    λ i. record { path = same.1 i; kind = same.0 i }

leaving_node : (rule : FlowRule) (path : List ℕ) (it : ItemKind) (n : Node) → leaving rule path it ≡ Some (point_of n) → arriving rule path it ≡ Some (point_of n)
leaving_node rule path (item.Whole x) n h = absurd (mapped_inner point.Out (λ p. tt) (option_map (below path) (argument rule x)) n h)
leaving_node rule path item.Entry n h = h
leaving_node rule path item.Exit n h = h
leaving_node rule path item.Start n h = h
leaving_node rule path item.End n h = h
leaving_node rule path item.This n h = h
leaving_node rule path (item.Single x) n h = h

mapped_some : (f : List ℕ → Point) (path : List ℕ) (o : Option ℕ) → ¬ (o ≡ None) → (b : Point) × (option_map f (option_map (below path) o) ≡ Some b)
mapped_some f path None h = absurd (h refl)
mapped_some f path (Some k) h = (f (below path k), refl)

-- an item whose name is bound is a point on each side of an arrow
arrives : (rule : FlowRule) (path : List ℕ) (it : ItemKind) → ¬ IsUnboundItem rule it → (b : Point) × (arriving rule path it ≡ Some b)
arrives rule path (item.Whole x) h = mapped_some point.In path (argument rule x) h
arrives rule path (item.Single x) h = mapped_some point.Node path (argument rule x) h
arrives rule path item.Entry h = (point.In path, refl)
arrives rule path item.Exit h = (point.Out path, refl)
arrives rule path item.Start h = (point.Start path, refl)
arrives rule path item.End h = (point.End path, refl)
arrives rule path item.This h = (point.Node path, refl)

leaves : (rule : FlowRule) (path : List ℕ) (it : ItemKind) → ¬ IsUnboundItem rule it → (a : Point) × (leaving rule path it ≡ Some a)
leaves rule path (item.Whole x) h = mapped_some point.Out path (argument rule x) h
leaves rule path (item.Single x) h = mapped_some point.Node path (argument rule x) h
leaves rule path item.Entry h = (point.In path, refl)
leaves rule path item.Exit h = (point.Out path, refl)
leaves rule path item.Start h = (point.Start path, refl)
leaves rule path item.End h = (point.End path, refl)
leaves rule path item.This h = (point.Node path, refl)

module _ (spec : Spec) (tree : Term) (links : List Link) (exact : (x : Link) → Contains links x ↔ IsLink spec tree x.from x.to) (n : Node) where
  node_of_end : IsEnd links n → IsNode spec tree n
  node_of_end h =
      let made : IsLink spec tree h.x.from h.x.to = (exact h.x).0 h.among in
      elim h.side [
        | inl e ↦ link_from spec tree n h.x.to (subst (λ (p : Point). IsLink spec tree p h.x.to) e made)
        | inr e ↦ link_to spec tree n h.x.from (subst (λ (p : Point). IsLink spec tree h.x.from p) e made)
      ]

  module _ (long : HasLongChains spec) (bound : HasBoundItems spec) where
    end_of_node : IsNode spec tree n → IsEnd links n
    end_of_node h = by (eq-or-lt_of_le (let f : k < length h.chain.items = h.has_item.1 in omega arith))
      where
        k : ℕ
        k = h.has_item.0

        among : Contains spec.control h.rule
        among = found_among (λ (r : FlowRule). matches r.head h.counts.t) spec.control h.rule h.counts.counts.0

        here : slice_get h.chain.items h.has_item.0 ≡ Some h.it
        here = slice_get-get_or h.chain.items h.has_item.0 h.it h.has_item.1 ∙ ap Some h.has_item.2

        made : (left right : Item) (j : ℕ) (a b : Point) → slice_get h.chain.items j ≡ Some left → slice_get h.chain.items (j + 1) ≡ Some right
            → leaving h.rule h.path left.kind ≡ Some a → arriving h.rule h.path right.kind ≡ Some b → Contains links (link a b)
        made left right j a b at_left at_right l r = (exact (link a b)).1 (record {
          path = h.path;
          t = h.counts.t;
          position = h.counts.position;
          made = in_chain h.rule h.chain left right h.counts.counts h.has_chain (j, at_left, at_right) l r;
        })

        before : (j : ℕ) → j + 1 ≡ h.has_item.0 → IsEnd links n
        before j e =
            let within : j < length h.chain.items = (let f : h.has_item.0 < length h.chain.items = h.has_item.1 in omega arith) in
            let left : Item = get_or h.chain.items j h.it in
            let from : (a : Point) × (leaving h.rule h.path left.kind ≡ Some a) = leaves h.rule h.path left.kind (bound h.rule among h.chain h.has_chain left (Contains-get_or h.chain.items j h.it within)) in
            record {
              x = link from.0 (point_of n);
              among = made left h.it j from.0 (point_of n) (slice_get-get_or h.chain.items j h.it within) (ap (slice_get h.chain.items) e ∙ here) from.1 (leaving_node h.rule h.path h.it.kind n h.named);
              side = inr refl;
            }

        after : h.has_item.0 + 1 < length h.chain.items → IsEnd links n
        after within =
            let right : Item = get_or h.chain.items (h.has_item.0 + 1) h.it in
            let to : (b : Point) × (arriving h.rule h.path right.kind ≡ Some b) = arrives h.rule h.path right.kind (bound h.rule among h.chain h.has_chain right (Contains-get_or h.chain.items (h.has_item.0 + 1) h.it within)) in
            record {
              x = link (point_of n) to.0;
              among = made h.it right h.has_item.0 (point_of n) to.0 here (slice_get-get_or h.chain.items (h.has_item.0 + 1) h.it within) h.named to.1;
              side = inl refl;
            }

        by : (h.has_item.0 + 1 ≡ length h.chain.items) ⊎ (h.has_item.0 + 1 < length h.chain.items) → IsEnd links n
        by (inr within) = after within
        by (inl e) =
            let two : 2 ≤ length h.chain.items = long h.rule among h.chain h.has_chain in
            before (h.has_item.0 - 1) (omega arith)

    pub ends_are_nodes : IsEnd links n ↔ IsNode spec tree n
    ends_are_nodes = (node_of_end, end_of_node)

-- the ends of one link more
pub ends_more : (links : List Link) (x : Link) (n : Node) → (IsEnd links n ⊎ ((x.from ≡ point_of n) ⊎ (x.to ≡ point_of n))) ↔ IsEnd (links ++ x ∷ []) n
ends_more links x n = (
  λ h. elim h [
    | inl p ↦ record { x = p.x; among = Contains-append_left links (x ∷ []) p.x p.among; side = p.side }
    | inr side ↦ record { x = x; among = Contains-push links x; side = side }
  ],
  λ p. elim (Contains-push_cases links x p.x p.among) [
    | inl before ↦ inl (record { x = p.x; among = before; side = p.side })
    | inr same ↦ inr (subst (λ (y : Link). (y.from ≡ point_of n) ⊎ (y.to ≡ point_of n)) (sym same) p.side)
  ],
)

pub no_ends : (n : Node) → ¬ IsEnd [] n
no_ends n p = none_in_nil p.x p.among
