-- What a position owns that isn't entered.
use Rattle.std.proofs.Common.{◌≡◌, ◌↔◌, ◌⊎◌, ℕ, ◌+◌, Bool, true, false, ◌&&◌, ◌||◌, IsTrue, List, length, Option, Some, None, refl, sym, ap, subst, ◌∙◌, inl, inr, true≢false}
use Rattle.std.specs.Prelude.{option_map}
use Rattle.std.specs.Option.{option_map_or}
use Rattle.std.proofs.lemmas.Option.{same_Some}
use Rattle.flow_term.specs.declared.graph.Node.{Node}
use Rattle.flow_term.specs.declared.graph.Point.{Point}
use Rattle.flow_term.specs.declared.graph.Point.TheVariants as point
use Rattle.flow_term.specs.declared.term.Term.{Term}
use Rattle.flow_term.specs.Annotations.{term_layer}
use Rattle.flow_syntax.specs.declared.rule.FlowRule.{FlowRule}
use Rattle.flow_syntax.specs.declared.rule.ItemKind.{ItemKind}
use Rattle.flow_syntax.specs.declared.rule.ItemKind.TheVariants as item
use Rattle.flow_syntax.specs.declared.spec.Spec.{Spec}
use Rattle.flow_syntax.specs.Control.{argument, enters, enters_child, rule_for}
use Rattle.flow_syntax.specs.Graph.{IsInner, LinksAt, arriving, below, from_last, in_chain, into_first, point_of, through_empty, through_other, to_next}
use Rattle.flow_syntax.specs.Matching.{is_list, matches}
use Rattle.flow_syntax.specs.RuleFaults.{IsMisplaced}
use Rattle.flow_syntax.proofs.Matches.{found_among}
use Rattle.flow_links.specs.Below.{LinksBelow}
use Rattle.way_theory.specs.Parts.{enter, leave, own_link, pass}
use Rattle.way_theory.specs.Ways.{Way, by_link, over}
use Rattle.way_theory.proofs.WayLemmas.{way_map}
use Rattle.graph_laws.specs.Owners.{HasPlacedItems, Owns}
use Rattle.graph_laws.specs.Parts.{LinksOfChild, child_entry, child_exit, onward, own_steps}
use Rattle.graph_laws.proofs.Nodes.{no_inner_node}
use Rattle.graph_shape.specs.Shapes.{HasNoListRules}
use Rattle.graph_shape.proofs.Children.{never_child}
use Rattle.graph_edges.specs.Laws.{HasRoot}

root_at : (a : Bool) → IsTrue (a || false) → a ≡ true
root_at true h = refl
root_at false h = h

always : (a : Bool) → IsTrue (a || true)
always true = refl
always false = refl

module _ (spec : Spec) (placed : HasPlacedItems spec) (lists : HasNoListRules spec) (t : Term) (path : List ℕ) where
  abbrev OwnSteps : Bool → Point → Point → Type 0
  OwnSteps entered = own_steps spec entered t path

  -- a link of a position that isn't entered is one of a root
  link_root : (a b : Point) → LinksAt (rule_for spec t) false t path a b → HasRoot spec t
  link_root a b (in_chain rule chain left right c has pair l r) = record { rule = rule; is = c.0; root = root_at rule.root c.1 }
  link_root a b (through_empty e i f g) = absurd (true≢false (sym e))
  link_root a b (into_first n e i f g) = absurd (true≢false (sym e))
  link_root a b (to_next n k e i w f g) = absurd (true≢false (sym e))
  link_root a b (from_last n e i f g) = absurd (true≢false (sym e))
  link_root a b (through_other e i r f g) = absurd (true≢false (sym e))

  -- a way from a node meets a root's link, or hasn't come farther than to the exit of a child
  abbrev IsAtExit : Point → Type 0
  IsAtExit b = (k : ℕ) × (b ≡ child_exit path k onward)

  out_of_entry : (j k : ℕ) → ¬ (child_exit path j onward ≡ child_entry path k)
  out_of_entry j k e = cc

  node_entry : (n : Node) (k : ℕ) → ¬ (point_of n ≡ child_entry path k)
  node_entry n k e = no_inner_node n (subst IsInner (sym e) tt)

  from_node : (n : Node) (b : Point) → OwnSteps false (point_of n) b → HasRoot spec t ⊎ IsAtExit b
  from_node n b (own_link l) = inl (link_root (point_of n) b l)
  from_node n b (enter k e f) = absurd (node_entry n k e)
  from_node n b (leave k onward e l) = inr (k, e)
  from_node n b (pass k onward e f p) = absurd (node_entry n k e)

  from_exit : (m b : Point) → IsInner m → IsAtExit m → OwnSteps false m b → HasRoot spec t ⊎ IsAtExit b
  from_exit m b i x (own_link l) = inl (link_root m b l)
  from_exit m b i x (enter k e f) = absurd (out_of_entry x.0 k (sym x.1 ∙ e))
  from_exit m b i x (leave k onward e l) = absurd (l.node i)
  from_exit m b i x (pass k onward e f p) = absurd (out_of_entry x.0 k (sym x.1 ∙ e))

  way_root : (n : Node) (b : Point) → Way IsInner (OwnSteps false) (point_of n) b → HasRoot spec t ⊎ IsAtExit b
  way_root n _ (by_link b l) = from_node n b l
  way_root n _ (over m b w i l) = elim (way_root n m w) [ inl r ↦ inl r | inr x ↦ from_exit m b i x l ]

  pub owner_root : (n m : Node) → Owns spec false t path n m → HasRoot spec t
  owner_root n m w = elim (way_root n (point_of m) w) [ inl r ↦ r | inr x ↦ absurd (no_inner_node m (subst IsInner (sym x.1) tt)) ]

  module _ (r : HasRoot spec t) where
    no_list : (b : Bool) → is_list (term_layer t) ≡ b → b ≡ false
    no_list false e = refl
    no_list true e = let f : None ≡ Some r.rule = sym (lists t e) ∙ r.is in cc (f)

    plain : is_list (term_layer t) ≡ false
    plain = no_list (is_list (term_layer t)) refl

    -- a root enters the same children, entered or not
    same_children : (k : ℕ) → enters_child (rule_for spec t) false t k ≡ enters_child (rule_for spec t) true t k
    same_children k =
        ap (λ (m : Option FlowRule). (false && is_list (term_layer t)) || option_map_or (λ rule. (rule.root || false) && enters rule k) m false) r.is
        ∙ ap (λ (b : Bool). (b || false) && enters r.rule k) r.root
        ∙ sym (ap (λ (b : Bool). (true && b) || ((r.rule.root || true) && enters r.rule k)) plain ∙ ap (λ (b : Bool). (b || true) && enters r.rule k) r.root)
        ∙ sym (ap (λ (m : Option FlowRule). (true && is_list (term_layer t)) || option_map_or (λ rule. (rule.root || true) && enters rule k) m false) r.is)

    links_same : (k : ℕ) (a b : Point) → LinksOfChild spec false t path k a b → LinksOfChild spec true t path k a b
    links_same k a b l = record { child = l.child; is = l.is; links = subst (λ (e : Bool). LinksBelow spec e l.child (below path k) a b) (same_children k) l.links }

    links_back : (k : ℕ) (a b : Point) → LinksOfChild spec true t path k a b → LinksOfChild spec false t path k a b
    links_back k a b l = record { child = l.child; is = l.is; links = subst (λ (e : Bool). LinksBelow spec e l.child (below path k) a b) (sym (same_children k)) l.links }

    step_forth : (a b : Point) → OwnSteps false a b → OwnSteps true a b
    step_forth a b (own_link l) = own_link (link_forth l)
      where
        link_forth : LinksAt (rule_for spec t) false t path a b → LinksAt (rule_for spec t) true t path a b
        link_forth (in_chain rule chain left right c has pair l r) = in_chain rule chain left right (c.0, always rule.root) has pair l r
        link_forth (through_empty e i f g) = absurd (true≢false (sym e))
        link_forth (into_first n e i f g) = absurd (true≢false (sym e))
        link_forth (to_next n k e i w f g) = absurd (true≢false (sym e))
        link_forth (from_last n e i f g) = absurd (true≢false (sym e))
        link_forth (through_other e i r f g) = absurd (true≢false (sym e))
    step_forth a b (enter k e f) = enter k e (record { node = f.node; way = way_map IsInner _ _ (child_entry path k) b (links_same k) f.way })
    step_forth a b (leave k onward e l) = leave k onward e (record { node = l.node; way = way_map IsInner _ _ a (child_exit path k onward) (links_same k) l.way })
    step_forth a b (pass k onward e f p) = pass k onward e f (way_map IsInner _ _ (child_entry path k) (child_exit path k onward) (links_same k) p)

    -- no item of a root leads into its entry
    no_entry_item : (o : Option ℕ) → ¬ (option_map point.In (option_map (below path) o) ≡ Some (point.In path))
    no_entry_item None h = cc
    no_entry_item (Some k) h = never_child path k (sym (in_path (below path k) path (same_Some (point.In (below path k)) (point.In path) h)))
      where
        in_path : (p q : List ℕ) → point.In p ≡ point.In q → p ≡ q
        in_path p q e = cc

    no_single_item : (o : Option ℕ) → ¬ (option_map point.Node (option_map (below path) o) ≡ Some (point.In path))
    no_single_item None h = cc
    no_single_item (Some k) h = cc

    not_in : (rule : FlowRule) (it : ItemKind) → ¬ (it ≡ item.Entry) → ¬ (arriving rule path it ≡ Some (point.In path))
    not_in rule item.Entry other h = other refl
    not_in rule item.Exit other h = cc
    not_in rule item.Start other h = cc
    not_in rule item.End other h = cc
    not_in rule item.This other h = cc
    not_in rule (item.Whole x) other h = no_entry_item (argument rule x) h
    not_in rule (item.Single x) other h = no_single_item (argument rule x) h

    exit_not_in : (k : ℕ) → ¬ (child_exit path k onward ≡ point.In path)
    exit_not_in k e = cc

    -- a step of the entered position that doesn't begin at its entry
    step_back : (a b : Point) → ¬ (a ≡ point.In path) → OwnSteps true a b → OwnSteps false a b × ¬ (b ≡ point.In path)
    step_back a b other (own_link l) = link_back l
      where
        link_back : LinksAt (rule_for spec t) true t path a b → OwnSteps false a b × ¬ (b ≡ point.In path)
        link_back (in_chain rule chain left right c has pair l m) =
            let same : r.rule ≡ rule = same_Some r.rule rule (sym r.is ∙ c.0) in
            let root : rule.root ≡ true = subst (λ (x : FlowRule). x.root ≡ true) same r.root in (
              own_link (in_chain rule chain left right (c.0, ap (λ (b : Bool). b || false) root) has pair l m),
              λ e. not_in rule right.kind
                  (λ (f : right.kind ≡ item.Entry). placed rule (found_among (λ (x : FlowRule). matches x.head t) spec.control rule c.0) chain has (pair.0 + 1) right pair.2 (subst (λ (it : ItemKind). IsMisplaced rule.root (length chain.items) (pair.0 + 1) it) (sym f) (inl root)))
                  (m ∙ ap Some e),
            )
        link_back (through_empty e i f g) = absurd (true≢false (sym i.0 ∙ plain))
        link_back (into_first n e i f g) = absurd (true≢false (sym i.0 ∙ plain))
        link_back (to_next n k e i w f g) = absurd (true≢false (sym i.0 ∙ plain))
        link_back (from_last n e i f g) = absurd (true≢false (sym i.0 ∙ plain))
        link_back (through_other e i h f g) = absurd (other f)
    step_back a b other (enter k e f) = (enter k e (record { node = f.node; way = way_map IsInner _ _ (child_entry path k) b (links_back k) f.way }), λ h. f.node (subst IsInner (sym h) tt))
    step_back a b other (leave k onward e l) = (leave k onward e (record { node = l.node; way = way_map IsInner _ _ a (child_exit path k onward) (links_back k) l.way }), λ h. exit_not_in k (sym e ∙ h))
    step_back a b other (pass k onward e f p) = (pass k onward e f (way_map IsInner _ _ (child_entry path k) (child_exit path k onward) (links_back k) p), λ h. exit_not_in k (sym f ∙ h))

    way_back : (n : Node) (b : Point) → Way IsInner (OwnSteps true) (point_of n) b → Way IsInner (OwnSteps false) (point_of n) b × ¬ (b ≡ point.In path)
    way_back n _ (by_link b l) = let s = step_back (point_of n) b (λ e. no_inner_node n (subst IsInner (sym e) tt)) l in (by_link b s.0, s.1)
    way_back n _ (over m b w i l) =
        let v = way_back n m w in
        let s = step_back m b v.1 l in
        (over m b v.0 i s.0, s.1)

    pub root_owns : (n m : Node) → Owns spec false t path n m ↔ Owns spec true t path n m
    root_owns n m = (λ w. way_map IsInner _ _ (point_of n) (point_of m) step_forth w, λ w. (way_back n (point_of m) w).0)

  -- a position that isn't entered owns what it would own entered, if it is a root, and nothing otherwise
  pub unentered_owns : (n m : Node) → Owns spec false t path n m ↔ (HasRoot spec t × Owns spec true t path n m)
  unentered_owns n m = (λ w. (let r = owner_root n m w in (r, (root_owns r n m).0 w)), λ h. (root_owns h.0 n m).1 h.1)
