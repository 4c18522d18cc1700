-- The links at and below a position are those that it makes and those of its children.
use Rattle.std.proofs.Common.{◌≡◌, ◌↔◌, ℕ, Bool, false, List, [], ◌∷◌, ◌++◌, Option, Some, None, refl, sym, ap, subst, ◌∙◌, append_assoc, append-nil}
use Rattle.std.specs.Prelude.{slice_get, option_and_then}
use Rattle.std.specs.Option.{option_map_or}
use Rattle.std.proofs.lemmas.Option.{same_Some}
use Rattle.flow_term.specs.declared.term.Term.{Term}
use Rattle.flow_term.specs.declared.graph.Point.{Point}
use Rattle.flow_term.specs.Trees.{At, children}
use Rattle.flow_syntax.specs.declared.spec.Spec.{Spec}
use Rattle.flow_syntax.specs.Control.{enters_child, entered_below, rule_for}
use Rattle.flow_syntax.specs.Graph.{IsInner, LinksAt, below}
use Rattle.flow_links.specs.Below.{LinksBelow}
use Rattle.way_theory.specs.Ways.{Way, by_link, over}
use Rattle.way_theory.specs.Parts.{Link, its_own, of_part}
use Rattle.way_theory.proofs.WayLemmas.{way_map}
use Rattle.graph_laws.specs.Parts.{LinksOfChild, own_links}

module _ (spec : Spec) (entered : Bool) (t : Term) (path : List ℕ) where
  abbrev Whole : Point → Point → Type 0
  Whole = Link (own_links spec entered t path) (LinksOfChild spec entered t path)

  module _ (a b : Point) where
    -- what a position below a child makes
    of_child_at : (k : ℕ) (rest : List ℕ) (u : Term) (o : Option Term) → slice_get (children t) k ≡ o → option_and_then (λ child. At child rest) o ≡ Some u
        → LinksAt (rule_for spec u) (option_map_or (λ child. entered_below spec (enters_child (rule_for spec t) entered t k) child rest) o false) u (path ++ k ∷ rest) a b → Whole a b
    of_child_at k rest u None is position made = cc
    of_child_at k rest u (Some child) is position made = of_part k (record {
      child = child;
      is = is;
      links = record {
        rest = rest;
        u = u;
        position = position;
        made =
            subst (λ (p : List ℕ). LinksAt (rule_for spec u) (entered_below spec (enters_child (rule_for spec t) entered t k) child rest) u p a b) (sym (append_assoc path (k ∷ []) rest)) made;
      };
    })

    split : (rest : List ℕ) (u : Term) → At t rest ≡ Some u → LinksAt (rule_for spec u) (entered_below spec entered t rest) u (path ++ rest) a b → Whole a b
    split [] u position made = its_own (subst (λ (v : Term). LinksAt (rule_for spec v) entered v path a b) (sym (same_Some t u position))
        (subst (λ (p : List ℕ). LinksAt (rule_for spec u) entered u p a b) (append-nil path) made))
    split (k ∷ rest) u position made = of_child_at k rest u (slice_get (children t) k) refl position made

    join : Whole a b → LinksBelow spec entered t path a b
    join (its_own l) = record { rest = []; u = t; position = refl; made = subst (λ (p : List ℕ). LinksAt (rule_for spec t) entered t p a b) (sym (append-nil path)) l }
    join (of_part k c) = record {
      rest = k ∷ c.links.rest;
      u = c.links.u;
      position = ap (option_and_then (λ (child : Term). At child c.links.rest)) c.is ∙ c.links.position;
      made =
          subst (λ (o : Option Term). LinksAt (rule_for spec c.links.u) (option_map_or (λ child. entered_below spec (enters_child (rule_for spec t) entered t k) child c.links.rest) o false) c.links.u (path ++ k ∷ c.links.rest) a b) (sym c.is)
          (subst (λ (p : List ℕ). LinksAt (rule_for spec c.links.u) (entered_below spec (enters_child (rule_for spec t) entered t k) c.child c.links.rest) c.links.u p a b) (append_assoc path (k ∷ []) c.links.rest) c.links.made);
    }

    pub whole_is : LinksBelow spec entered t path a b ↔ Whole a b
    whole_is = (λ l. split l.rest l.u l.position l.made, join)

  -- so are the ways
  pub whole_way : (a b : Point) → Way IsInner (LinksBelow spec entered t path) a b ↔ Way IsInner Whole a b
  whole_way a b = (
    way_map IsInner _ _ a b (λ x y l. (whole_is x y).0 l),
    way_map IsInner _ _ a b (λ x y l. (whole_is x y).1 l),
  )

  -- the ways of a child that is there
  pub of_child : (k : ℕ) (child : Term) → slice_get (children t) k ≡ Some child → (a b : Point)
      → Way IsInner (LinksOfChild spec entered t path k) a b ↔ Way IsInner (LinksBelow spec (enters_child (rule_for spec t) entered t k) child (below path k)) a b
  of_child k child is a b = (
    way_map IsInner _ _ a b (λ x y l. subst (λ (c : Term). LinksBelow spec (enters_child (rule_for spec t) entered t k) c (below path k) x y) (same_Some l.child child (sym l.is ∙ is)) l.links),
    way_map IsInner _ _ a b (λ x y l. record { child = child; is = is; links = l }),
  )

  -- a way of a child shows that the child is there
  pub there : (k : ℕ) (a b : Point) → Way IsInner (LinksOfChild spec entered t path k) a b → (child : Term) × (slice_get (children t) k ≡ Some child)
  there k a _ (by_link b l) = (l.child, l.is)
  there k a _ (over m b w i l) = (l.child, l.is)
