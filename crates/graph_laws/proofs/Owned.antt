-- The edges of a tree are those that its positions own.
use Rattle.std.proofs.Common.{◌≡◌, ◌⊎◌, ◌↔◌, ℕ, zero, suc, ◌<◌, ◌≤◌, Bool, false, List, [], ◌∷◌, ◌++◌, Option, Some, None, refl, sym, ap, subst, ◌∙◌, inl, inr, append_assoc, append-nil, arith}
use Rattle.std.specs.Prelude.{slice_get, option_and_then}
use Rattle.std.specs.Option.{option_map_or}
use Rattle.std.proofs.lemmas.Option.{slice_get_within, get_or_from_slice_get, same_Some}
use Rattle.flow_term.specs.declared.term.Term.{Term}
use Rattle.flow_term.specs.declared.graph.Node.{Node}
use Rattle.flow_term.specs.declared.graph.Point.TheVariants as point
use Rattle.flow_term.specs.Trees.{At, children, term_size}
use Rattle.flow_syntax.specs.declared.spec.Spec.{Spec}
use Rattle.flow_syntax.specs.Control.{enters_child, entered_below, rule_for}
use Rattle.flow_syntax.specs.Graph.{IsInner, below, point_of}
use Rattle.flow_links.specs.Below.{LinksBelow}
use Rattle.flow_links.proofs.SizeLemmas.{child_smaller, few_children}
use Rattle.way_theory.specs.Ways.{Way}
use Rattle.way_theory.proofs.WayLemmas.{way_map}
use Rattle.way_theory.proofs.PartLemmas.{ways_split}
use Rattle.graph_laws.specs.Laws.{EdgesAreOwned}
use Rattle.graph_laws.specs.Owners.{HasPlacedItems, Owns}
use Rattle.graph_laws.specs.Parts.{LinksOfChild, child_entry, child_exit, exit_at, own_links}
use Rattle.graph_laws.proofs.Apart.{IsAtChild, parts_apart}
use Rattle.graph_laws.proofs.EdgeWays.{edge_way}
use Rattle.graph_laws.proofs.Nodes.{no_inner_node}
use Rattle.graph_laws.proofs.Wholes.{of_child, there, whole_way}

-- A position at or below a term owns the edge.
pub record OwnedBelow (spec : Spec) (entered : Bool) (t : Term) (path : List ℕ) (from to : Node) : Type 0 where
  pub rest : List ℕ
  pub u : Term
  pub position : At t rest ≡ Some u
  pub owns : Owns spec (entered_below spec entered t rest) u (path ++ rest) from to

smaller : (t : Term) (k : ℕ) (child : Term) → slice_get (children t) k ≡ Some child → term_size child < term_size t
smaller t k child is = child_smaller t (children t) k child refl (slice_get_within (children t) k child is) (sym (get_or_from_slice_get (children t) k child child is))

module _ (spec : Spec) (placed : HasPlacedItems spec) (from to : Node) where
  abbrev WayBelow : Bool → Term → List ℕ → Type 0
  WayBelow entered t path = Way IsInner (LinksBelow spec entered t path) (point_of from) (point_of to)

  -- the ways between two nodes are those in a child and those that the position owns
  nodes_split : (entered : Bool) (t : Term) (path : List ℕ) → WayBelow entered t path
      ↔ (((k : ℕ) × Way IsInner (LinksOfChild spec entered t path k) (point_of from) (point_of to)) ⊎ Owns spec entered t path from to)
  nodes_split entered t path =
      let both = ways_split IsInner (own_links spec entered t path) (LinksOfChild spec entered t path) (point.In path) (exit_at path) (child_entry path) (child_exit path)
      (IsAtChild path) (parts_apart spec placed entered t path) (point_of from) (point_of to) (inr (no_inner_node from)) (inr (no_inner_node to)) in
      let whole = whole_way spec entered t path (point_of from) (point_of to) in
      (λ w. both.0 (whole.0 w), λ h. whole.1 (both.1 h))

  owned_here : (entered : Bool) (t : Term) (path : List ℕ) → Owns spec entered t path from to → OwnedBelow spec entered t path from to
  owned_here entered t path o = record { rest = []; u = t; position = refl; owns = subst (λ (p : List ℕ). Owns spec entered t p from to) (sym (append-nil path)) o }

  owned_child : (entered : Bool) (t : Term) (path : List ℕ) (k : ℕ) (child : Term) → slice_get (children t) k ≡ Some child
      → OwnedBelow spec (enters_child (rule_for spec t) entered t k) child (below path k) from to → OwnedBelow spec entered t path from to
  owned_child entered t path k child is o = record {
    rest = k ∷ o.rest;
    u = o.u;
    position = ap (option_and_then (λ (c : Term). At c o.rest)) is ∙ o.position;
    owns =
        subst (λ (p : List ℕ). Owns spec (entered_below spec entered t (k ∷ o.rest)) o.u p from to) (append_assoc path (k ∷ []) o.rest)
        (subst (λ (v : Option Term). Owns spec (option_map_or (λ c. entered_below spec (enters_child (rule_for spec t) entered t k) c o.rest) v false) o.u (below path k ++ o.rest) from to) (sym is) o.owns);
  }

  -- a way is owned
  way_owned : (n : ℕ) (entered : Bool) (t : Term) (path : List ℕ) → term_size t ≤ n → WayBelow entered t path → OwnedBelow spec entered t path from to
  way_owned zero entered t path small w = absurd (omega (arith, few_children t))
  way_owned (suc n) entered t path small w =
      elim ((nodes_split entered t path).0 w) [
        | inl v ↦
            let c = there spec entered t path v.0 (point_of from) (point_of to) v.1 in
            owned_child entered t path v.0 c.0 c.1
            (way_owned n (enters_child (rule_for spec t) entered t v.0) c.0 (below path v.0) (omega (arith, smaller t v.0 c.0 c.1, small)) ((of_child spec entered t path v.0 c.0 c.1 (point_of from) (point_of to)).0 v.1))
        | inr v ↦ owned_here entered t path v
      ]

  child_way : (k : ℕ) (rest : List ℕ) (entered : Bool) (t u : Term) (path : List ℕ)
      → ((child : Term) → At child rest ≡ Some u → Owns spec (entered_below spec (enters_child (rule_for spec t) entered t k) child rest) u (below path k ++ rest) from to → WayBelow (enters_child (rule_for spec t) entered t k) child (below path k))
      → (v : Option Term) → slice_get (children t) k ≡ v → option_and_then (λ c. At c rest) v ≡ Some u
      → Owns spec (option_map_or (λ c. entered_below spec (enters_child (rule_for spec t) entered t k) c rest) v false) u (path ++ k ∷ rest) from to → WayBelow entered t path
  child_way k rest entered t u path inner None is position o = cc
  child_way k rest entered t u path inner (Some child) is position o =
      (nodes_split entered t path).1 (inl (
        k,
        (of_child spec entered t path k child is (point_of from) (point_of to)).1
            (inner child position
            (subst (λ (p : List ℕ). Owns spec (entered_below spec (enters_child (rule_for spec t) entered t k) child rest) u p from to) (sym (append_assoc path (k ∷ []) rest)) o)),
      ))

  -- what is owned is a way
  owned_way : (rest : List ℕ) (entered : Bool) (t u : Term) (path : List ℕ) → At t rest ≡ Some u → Owns spec (entered_below spec entered t rest) u (path ++ rest) from to → WayBelow entered t path
  owned_way [] entered t u path position o =
      let same : t ≡ u = same_Some t u position in
      let here : Owns spec entered t path from to = subst (λ (v : Term). Owns spec entered v path from to) (sym same) (subst (λ (p : List ℕ). Owns spec entered u p from to) (append-nil path) o) in
      (nodes_split entered t path).1 (inr here)
  owned_way (k ∷ rest) entered t u path position o =
      child_way k rest entered t u path (λ child at p. owned_way rest (enters_child (rule_for spec t) entered t k) child u (below path k) at p) (slice_get (children t) k) refl position o

  pub below_owned : (entered : Bool) (t : Term) (path : List ℕ) → WayBelow entered t path ↔ OwnedBelow spec entered t path from to
  below_owned entered t path = (way_owned (term_size t) entered t path (omega arith), λ o. owned_way o.rest entered t o.u path o.position o.owns)

-- The edges of a tree are those that its positions own.
pub edges_owned : EdgesAreOwned
edges_owned spec placed tree from to = (
  λ e. let o = (below_owned spec placed from to false tree []).0 (way_map IsInner _ _ (point_of from) (point_of to) (λ x y l. record { rest = l.path; u = l.t; position = l.position; made = l.made }) ((edge_way spec tree from to).0 e)) in
      record { path = o.rest; t = o.u; position = o.position; owns = o.owns },
  λ o. (edge_way spec tree from to).1 (way_map IsInner _ _ (point_of from) (point_of to) (λ x y l. record { path = l.rest; t = l.u; position = l.position; made = l.made })
      ((below_owned spec placed from to false tree []).1 (record { rest = o.path; u = o.t; position = o.position; owns = o.owns }))),
)
