-- A replacement by a term with the same first and last nodes and passing changes nothing above it.
use Rattle.std.proofs.Common.{◌≡◌, ◌↔◌, ℕ, Bool, List, [], ◌∷◌, ◌++◌, length, length-set, Option, Some, None, refl, sym, ap, subst, ◌∙◌, append_assoc, append-nil}
use Rattle.std.specs.Option.{option_map_or}
use Rattle.std.specs.Prelude.{false, option_and_then, slice_get, slice_set}
use Rattle.std.proofs.lemmas.Option.{same_Some}
use Rattle.flow_term.specs.declared.term.Term.{Term}
use Rattle.flow_term.specs.declared.graph.Node.{Node}
use Rattle.flow_term.specs.declared.graph.Point.{Point}
use Rattle.flow_term.specs.declared.graph.Point.TheVariants as point
use Rattle.flow_term.specs.Annotations.{term_layer}
use Rattle.flow_term.specs.Trees.{At, Put, children}
use Rattle.flow_syntax.specs.declared.spec.Spec.{Spec}
use Rattle.flow_syntax.specs.Control.{entered_below, enters_child, rule_for}
use Rattle.flow_syntax.specs.Graph.{IsInner, below}
use Rattle.flow_syntax.specs.Matching.{is_list}
use Rattle.flow_links.specs.Below.{LinksBelow}
use Rattle.way_theory.specs.Ways.{Way}
use Rattle.graph_laws.specs.Replacements.{RulesStay, SameWays}
use Rattle.graph_laws.proofs.ChildChanges.{DifferInChild, SameChild}
use Rattle.graph_laws.specs.Owners.{HasPlacedItems, Owns}
use Rattle.graph_laws.specs.Parts.{LinksOfChild, exit_at}
use Rattle.graph_laws.proofs.Ancestors.{entered_same, parent_owns_same, parent_same}
use Rattle.graph_laws.proofs.Nodes.{node_of}
use Rattle.graph_laws.proofs.Replaced.{Replaced, children_replaced, get_set_other, get_set_same, layer_with, list_with, put_at}
use Rattle.graph_laws.proofs.Wholes.{of_child}

-- a term with another child differs in that child alone
pub differs_in_child : (spec : Spec) (t : Term) (n : ℕ) (u : Term) → rule_for spec (Replaced t n u) ≡ rule_for spec t → DifferInChild spec t (Replaced t n u) n
differs_in_child spec t n u rule = record {
  rule = rule;
  list = ap is_list (layer_with t (slice_set (children t) n u)) ∙ list_with (term_layer t) (slice_set (children t) n u);
  count = ap length (children_replaced t n u) ∙ length-set (children t) n u;
  others = λ j other. ap (λ ts. slice_get ts j) (children_replaced t n u) ∙ get_set_other (children t) n j u other;
}

-- the same of a replacement, seen at the root
pub put_differs : (spec : Spec) (new t c : Term) (n : ℕ) (rest : List ℕ) → slice_get (children t) n ≡ Some c → rule_for spec (Put t (n ∷ rest) new) ≡ rule_for spec t → DifferInChild spec t (Put t (n ∷ rest) new) n
put_differs spec new t c n rest is rule =
    let made : Put t (n ∷ rest) new ≡ Replaced t n (Put c rest new) = put_at t n rest new (Some c) is in
    subst (λ (v : Term). DifferInChild spec t v n) (sym made) (differs_in_child spec t n (Put c rest new) (ap (rule_for spec) (sym made) ∙ rule))

-- the child of the new term
pub put_child : (new t c : Term) (n : ℕ) (rest : List ℕ) → slice_get (children t) n ≡ Some c → slice_get (children (Put t (n ∷ rest) new)) n ≡ Some (Put c rest new)
put_child new t c n rest is =
    ap (λ (v : Term). slice_get (children v) n) (put_at t n rest new (Some c) is)
    ∙ ap (λ ts. slice_get ts n) (children_replaced t n (Put c rest new)) ∙ get_set_same (children t) n c (Put c rest new) is

module _ (spec : Spec) (entered : Bool) (t t' : Term) (path : List ℕ) (k : ℕ) (c c' : Term)
    (is : slice_get (children t) k ≡ Some c) (is' : slice_get (children t') k ≡ Some c') (flag : enters_child (rule_for spec t') entered t' k ≡ enters_child (rule_for spec t) entered t k) where
  abbrev Old : Point → Point → Type 0
  Old = Way IsInner (LinksBelow spec (enters_child (rule_for spec t) entered t k) c (below path k))

  abbrev New : Point → Point → Type 0
  New = Way IsInner (LinksBelow spec (enters_child (rule_for spec t) entered t k) c' (below path k))

  old_child : (a b : Point) → Way IsInner (LinksOfChild spec entered t path k) a b ↔ Old a b
  old_child a b = of_child spec entered t path k c is a b

  new_child : (a b : Point) → Way IsInner (LinksOfChild spec entered t' path k) a b ↔ New a b
  new_child a b = subst (λ (e : Bool). Way IsInner (LinksOfChild spec entered t' path k) a b ↔ Way IsInner (LinksBelow spec e c' (below path k)) a b) flag (of_child spec entered t' path k c' is' a b)

  -- what is known of a child is the same where its ways are
  pub same_child : SameWays spec (enters_child (rule_for spec t) entered t k) c c' (below path k) → SameChild spec entered t t' path k
  same_child ways = record {
    first = λ n. (
      λ f. let m = node_of n f.node in record { node = f.node; way = (new_child _ n).1 (subst (λ (p : Point). New (point.In (below path k)) p) m.1 ((ways.first m.0).0 (subst (λ (p : Point). Old (point.In (below path k)) p) (sym m.1) ((old_child _ n).0 f.way)))) },
      λ f. let m = node_of n f.node in record { node = f.node; way = (old_child _ n).1 (subst (λ (p : Point). Old (point.In (below path k)) p) m.1 ((ways.first m.0).1 (subst (λ (p : Point). New (point.In (below path k)) p) (sym m.1) ((new_child _ n).0 f.way)))) },
    );
    last = λ e n. (
      λ f. let m = node_of n f.node in record { node = f.node; way = (new_child n _).1 (subst (λ (p : Point). New p (exit_at (below path k) e)) m.1 ((ways.last e m.0).0 (subst (λ (p : Point). Old p (exit_at (below path k) e)) (sym m.1) ((old_child n _).0 f.way)))) },
      λ f. let m = node_of n f.node in record { node = f.node; way = (old_child n _).1 (subst (λ (p : Point). Old p (exit_at (below path k) e)) m.1 ((ways.last e m.0).1 (subst (λ (p : Point). New p (exit_at (below path k) e)) (sym m.1) ((new_child n _).0 f.way)))) },
    );
    passes = λ e. (λ w. (new_child _ _).1 ((ways.passes e).0 ((old_child _ _).0 w)), λ w. (old_child _ _).1 ((ways.passes e).1 ((new_child _ _).0 w)));
  }

module _ (spec : Spec) (new : Term) where
  -- one level up: what is known of the child at which the replacement stands
  child_known : (entered : Bool) (t c : Term) (path : List ℕ) (n : ℕ) (rest : List ℕ) → slice_get (children t) n ≡ Some c → DifferInChild spec t (Put t (n ∷ rest) new) n
      → SameWays spec (enters_child (rule_for spec t) entered t n) c (Put c rest new) (below path n) → SameChild spec entered t (Put t (n ∷ rest) new) path n
  child_known entered t c path n rest is d ways =
      same_child spec entered t (Put t (n ∷ rest) new) path n c (Put c rest new) is (put_child new t c n rest is) (entered_same spec entered t (Put t (n ∷ rest) new) path n d n) ways

  module _ (placed : HasPlacedItems spec) where
    -- a child on the way down, with the ways of the old term and of the new one below it
    abbrev ChildWays : Bool → Term → List ℕ → ℕ → List ℕ → Type 0
    ChildWays entered t path n rest = (c : Term) × (slice_get (children t) n ≡ Some c) × SameWays spec (enters_child (rule_for spec t) entered t n) c (Put c rest new) (below path n)

    -- Where the new term has the ways of the old one, so has each position above.
    pub same_upwards : (rest : List ℕ) (entered : Bool) (t u : Term) (path : List ℕ) → At t rest ≡ Some u → RulesStay spec new t rest → SameWays spec (entered_below spec entered t rest) u new (path ++ rest) → SameWays spec entered t (Put t rest new) path
    same_upwards [] entered t u path at stay ways = subst (λ (v : Term). SameWays spec entered v new path) (sym (same_Some t u at)) (subst (λ (p : List ℕ). SameWays spec entered u new p) (append-nil path) ways)
    same_upwards (n ∷ rest) entered t u path at stay ways =
        let known = by_child (λ c a s w. same_upwards rest (enters_child (rule_for spec t) entered t n) c u (below path n) a s w) (slice_get (children t) n) refl at ways in
        let d = put_differs spec new t known.0 n rest known.1 stay.0 in
        parent_same spec placed entered t (Put t (n ∷ rest) new) path n d (child_known entered t known.0 path n rest known.1 d known.2)
      where
        by_child : ((c : Term) → At c rest ≡ Some u → RulesStay spec new c rest → SameWays spec (entered_below spec (enters_child (rule_for spec t) entered t n) c rest) u new (below path n ++ rest) → SameWays spec (enters_child (rule_for spec t) entered t n) c (Put c rest new) (below path n))
            → (o : Option Term) → slice_get (children t) n ≡ o → option_and_then (λ c. At c rest) o ≡ Some u
            → SameWays spec (option_map_or (λ c. entered_below spec (enters_child (rule_for spec t) entered t n) c rest) o false) u new (path ++ n ∷ rest) → ChildWays entered t path n rest
        by_child inner None is at ways = cc
        by_child inner (Some c) is at ways = (
          c,
          is,
          inner c at (stay.1 c is) (subst (λ (p : List ℕ). SameWays spec (entered_below spec (enters_child (rule_for spec t) entered t n) c rest) u new p) (sym (append_assoc path (n ∷ []) rest)) ways),
        )

    -- A position above owns the same edges.
    pub owned_upwards : (n : ℕ) (rest : List ℕ) (entered : Bool) (t u : Term) (path : List ℕ) → At t (n ∷ rest) ≡ Some u → RulesStay spec new t (n ∷ rest) → SameWays spec (entered_below spec entered t (n ∷ rest)) u new (path ++ n ∷ rest)
        → (from to : Node) → Owns spec entered t path from to ↔ Owns spec entered (Put t (n ∷ rest) new) path from to
    owned_upwards n rest entered t u path at stay ways from to =
        let known = by_child (slice_get (children t) n) refl at ways in
        let d = put_differs spec new t known.0 n rest known.1 stay.0 in
        parent_owns_same spec placed entered t (Put t (n ∷ rest) new) path n d (child_known entered t known.0 path n rest known.1 d known.2) from to
      where
        by_child : (o : Option Term) → slice_get (children t) n ≡ o → option_and_then (λ c. At c rest) o ≡ Some u
            → SameWays spec (option_map_or (λ c. entered_below spec (enters_child (rule_for spec t) entered t n) c rest) o false) u new (path ++ n ∷ rest) → ChildWays entered t path n rest
        by_child None is at ways = cc
        by_child (Some c) is at ways = (
          c,
          is,
          same_upwards rest (enters_child (rule_for spec t) entered t n) c u (below path n) at (stay.1 c is)
              (subst (λ (p : List ℕ). SameWays spec (entered_below spec (enters_child (rule_for spec t) entered t n) c rest) u new p) (sym (append_assoc path (n ∷ []) rest)) ways),
        )
