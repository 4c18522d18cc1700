-- The links of a position and those of its children are apart, but for the children's entries and exits.
use Rattle.std.proofs.Common.{◌≡◌, ◌⊎◌, ℕ, ◌+◌, Bool, List, [], ◌∷◌, ◌++◌, length, Option, Some, None, refl, sym, ap, subst, ◌∙◌, inl, inr, append_assoc, arith, length-append}
use Rattle.std.specs.Prelude.{option_map}
use Rattle.std.proofs.lemmas.Option.{slice_get_within, same_Some}
use Rattle.flow_term.specs.declared.term.Term.{Term}
use Rattle.flow_term.specs.declared.graph.Point.{Point}
use Rattle.flow_term.specs.declared.graph.Point.TheVariants as point
use Rattle.flow_syntax.specs.declared.rule.FlowRule.{FlowRule}
use Rattle.flow_syntax.specs.declared.rule.ItemKind.{ItemKind}
use Rattle.flow_syntax.specs.declared.rule.ItemKind.TheVariants as item
use Rattle.flow_syntax.specs.declared.spec.Spec.{Spec}
use Rattle.flow_syntax.specs.Matching.{matches}
use Rattle.flow_syntax.specs.Control.{argument, rule_for}
use Rattle.flow_syntax.specs.Graph.{IsInner, LinksAt, in_chain, through_empty, into_first, to_next, from_last, through_other, leaving, arriving, below}
use Rattle.flow_syntax.specs.RuleFaults.{IsMisplaced}
use Rattle.flow_syntax.proofs.Matches.{found_among}
use Rattle.way_theory.specs.Parts.{AreApart}
use Rattle.graph_laws.specs.Owners.{HasPlacedItems}
use Rattle.graph_laws.specs.Parts.{Exit, onward, LinksOfChild, child_entry, child_exit, exit_at, own_links}

-- the path of a point's position
abbrev pub path_of : Point → List ℕ
path_of (point.In path) = path
path_of (point.Out path) = path
path_of (point.Node path) = path
path_of (point.Start path) = path
path_of (point.End path) = path

-- A point is one of a position at or below the child with this number.
abbrev pub IsAtChild : List ℕ → ℕ → Point → Type 0
IsAtChild path k x = (rest : List ℕ) × (path_of x ≡ path ++ k ∷ rest)

-- an exit stands at its position, and is an inner point
pub exit_path : (path : List ℕ) (e : Exit) → path_of (exit_at path e) ≡ path
exit_path path onward = refl

pub exit_inner : (path : List ℕ) (e : Exit) → IsInner (exit_at path e)
exit_inner path onward = tt

-- a point of a position, or of one of its children
abbrev pub IsNear : List ℕ → Point → Type 0
IsNear path x = (path_of x ≡ path) ⊎ ((k : ℕ) × (path_of x ≡ below path k))

near_child : (f : List ℕ → Point) → ((p : List ℕ) → path_of (f p) ≡ p) → (path : List ℕ) (a : Point) (o : Option ℕ) → option_map f (option_map (below path) o) ≡ Some a → IsNear path a
near_child f is path a None h = cc
near_child f is path a (Some k) h = inr (k, ap path_of (sym (same_Some (f (below path k)) a h)) ∙ is (below path k))

near_here : (path : List ℕ) (a b : Point) → path_of b ≡ path → Some b ≡ Some a → IsNear path a
near_here path a b is h = inl (ap path_of (sym (same_Some b a h)) ∙ is)

leaving_near : (rule : FlowRule) (path : List ℕ) (it : ItemKind) (a : Point) → leaving rule path it ≡ Some a → IsNear path a
leaving_near rule path item.Entry a h = near_here path a (point.In path) refl h
leaving_near rule path item.Exit a h = near_here path a (point.Out path) refl h
leaving_near rule path item.Start a h = near_here path a (point.Start path) refl h
leaving_near rule path item.End a h = near_here path a (point.End path) refl h
leaving_near rule path item.This a h = near_here path a (point.Node path) refl h
leaving_near rule path (item.Whole x) a h = near_child point.Out (λ p. refl) path a (argument rule x) h
leaving_near rule path (item.Single x) a h = near_child point.Node (λ p. refl) path a (argument rule x) h

arriving_near : (rule : FlowRule) (path : List ℕ) (it : ItemKind) (a : Point) → arriving rule path it ≡ Some a → IsNear path a
arriving_near rule path item.Entry a h = near_here path a (point.In path) refl h
arriving_near rule path item.Exit a h = near_here path a (point.Out path) refl h
arriving_near rule path item.Start a h = near_here path a (point.Start path) refl h
arriving_near rule path item.End a h = near_here path a (point.End path) refl h
arriving_near rule path item.This a h = near_here path a (point.Node path) refl h
arriving_near rule path (item.Whole x) a h = near_child point.In (λ p. refl) path a (argument rule x) h
arriving_near rule path (item.Single x) a h = near_child point.Node (λ p. refl) path a (argument rule x) h

-- the ends of a link are near the position that makes it
pub links_near : (matching : Option FlowRule) (entered : Bool) (t : Term) (path : List ℕ) (a b : Point) → LinksAt matching entered t path a b → IsNear path a × IsNear path b
links_near matching entered t path a b (in_chain rule chain left right c h s l r) = (leaving_near rule path left.kind a l, arriving_near rule path right.kind b r)
links_near matching entered t path a b (through_empty e i f g) = (inl (ap path_of f), inl (ap path_of g))
links_near matching entered t path a b (into_first n e i f g) = (inl (ap path_of f), inr (0, ap path_of g))
links_near matching entered t path a b (to_next n k e i w f g) = (inr (k, ap path_of f), inr (k + 1, ap path_of g))
links_near matching entered t path a b (from_last n e i f g) = (inr (n, ap path_of f), inl (ap path_of g))
links_near matching entered t path a b (through_other e i r f g) = (inl (ap path_of f), inl (ap path_of g))

-- a point near a position at or below a child is a point at or below the child
near_below : (path : List ℕ) (k : ℕ) (rest : List ℕ) (x : Point) → IsNear (below path k ++ rest) x → IsAtChild path k x
near_below path k rest x (inl e) = (rest, e ∙ append_assoc path (k ∷ []) rest)
near_below path k rest x (inr w) = (rest ++ w.0 ∷ [], w.1 ∙ ap (λ p. p ++ w.0 ∷ []) (append_assoc path (k ∷ []) rest) ∙ append_assoc path (k ∷ rest) (w.0 ∷ []))

pub cancel : (path xs ys : List ℕ) → path ++ xs ≡ path ++ ys → xs ≡ ys
cancel [] xs ys h = h
cancel (p ∷ path) xs ys h = cancel path xs ys (cc (h))

pub no_longer : (path : List ℕ) (k : ℕ) (rest : List ℕ) → ¬ (path ≡ path ++ k ∷ rest)
no_longer path k rest h = absurd (omega (arith, ap length h, length-append path (k ∷ rest)))

child_out : (path : List ℕ) (x : Point) (o : Option ℕ) → option_map point.Out (option_map (below path) o) ≡ Some x → (k : ℕ) × (x ≡ point.Out (below path k))
child_out path x None h = cc
child_out path x (Some k) h = (k, sym (same_Some (point.Out (below path k)) x h))

child_in : (path : List ℕ) (x : Point) (o : Option ℕ) → option_map point.In (option_map (below path) o) ≡ Some x → (k : ℕ) × (x ≡ point.In (below path k))
child_in path x None h = cc
child_in path x (Some k) h = (k, sym (same_Some (point.In (below path k)) x h))

-- no item is an inner point where it is a node
no_inner : (f : List ℕ → Point) → ((p : List ℕ) → ¬ IsInner (f p)) → (o : Option (List ℕ)) (x : Point) → option_map f o ≡ Some x → ¬ IsInner x
no_inner f node None x h i = cc
no_inner f node (Some p) x h i = node p (subst IsInner (sym (same_Some (f p) x h)) i)

-- an inner point that an item other than `exit` leaves is the position's own entry or the exit of a child
leaving_inner : (rule : FlowRule) (path : List ℕ) (it : ItemKind) (x : Point) → ¬ (it ≡ item.Exit) → leaving rule path it ≡ Some x → IsInner x → (x ≡ point.In path) ⊎ ((k : ℕ) × (x ≡ point.Out (below path k)))
leaving_inner rule path item.Entry x other h i = inl (sym (same_Some (point.In path) x h))
leaving_inner rule path item.Exit x other h i = absurd (other refl)
leaving_inner rule path item.Start x other h i = absurd (no_inner point.Start (λ p j. j) (Some path) x h i)
leaving_inner rule path item.End x other h i = absurd (no_inner point.End (λ p j. j) (Some path) x h i)
leaving_inner rule path item.This x other h i = absurd (no_inner point.Node (λ p j. j) (Some path) x h i)
leaving_inner rule path (item.Whole y) x other h i = inr (child_out path x (argument rule y) h)
leaving_inner rule path (item.Single y) x other h i = absurd (no_inner point.Node (λ p j. j) (option_map (below path) (argument rule y)) x h i)

arriving_inner : (rule : FlowRule) (path : List ℕ) (it : ItemKind) (x : Point) → ¬ (it ≡ item.Entry) → arriving rule path it ≡ Some x → IsInner x → (x ≡ point.Out path) ⊎ ((k : ℕ) × (x ≡ point.In (below path k)))
arriving_inner rule path item.Entry x other h i = absurd (other refl)
arriving_inner rule path item.Exit x other h i = inl (sym (same_Some (point.Out path) x h))
arriving_inner rule path item.Start x other h i = absurd (no_inner point.Start (λ p j. j) (Some path) x h i)
arriving_inner rule path item.End x other h i = absurd (no_inner point.End (λ p j. j) (Some path) x h i)
arriving_inner rule path item.This x other h i = absurd (no_inner point.Node (λ p j. j) (Some path) x h i)
arriving_inner rule path (item.Whole y) x other h i = inr (child_in path x (argument rule y) h)
arriving_inner rule path (item.Single y) x other h i = absurd (no_inner point.Node (λ p j. j) (option_map (below path) (argument rule y)) x h i)

module _ (spec : Spec) (placed : HasPlacedItems spec) (entered : Bool) (t : Term) (path : List ℕ) where
  -- an own link leaves the position's own entry or the exit of a child, where it leaves no node
  leaves : (x y : Point) → LinksAt (rule_for spec t) entered t path x y → IsInner x → (x ≡ point.In path) ⊎ ((k : ℕ) × (x ≡ point.Out (below path k)))
  leaves x y (in_chain rule chain left right c h s l r) i =
      leaving_inner rule path left.kind x
      (λ e. placed rule (found_among (λ (v : FlowRule). matches v.head t) spec.control rule c.0) chain h s.0 left s.1
      (subst (λ (v : ItemKind). IsMisplaced rule.root (length chain.items) s.0 v) (sym e) (inr (slice_get_within chain.items (s.0 + 1) right s.2))))
      l i
  leaves x y (through_empty e n f g) i = inl f
  leaves x y (into_first n e m f g) i = inl f
  leaves x y (to_next n k e m w f g) i = inr (k, f)
  leaves x y (from_last n e m f g) i = inr (n, f)
  leaves x y (through_other e m r f g) i = inl f

  -- and arrives at its own exit or the entry of a child
  arrives : (x y : Point) → LinksAt (rule_for spec t) entered t path x y → IsInner y → (y ≡ point.Out path) ⊎ ((k : ℕ) × (y ≡ point.In (below path k)))
  arrives x y (in_chain rule chain left right c h s l r) i =
      arriving_inner rule path right.kind y
      (λ e. placed rule (found_among (λ (v : FlowRule). matches v.head t) spec.control rule c.0) chain h (s.0 + 1) right s.2
      (subst (λ (v : ItemKind). IsMisplaced rule.root (length chain.items) (s.0 + 1) v) (sym e) (inr (omega arith))))
      r i
  arrives x y (through_empty e n f g) i = inl g
  arrives x y (into_first n e m f g) i = inr (0, g)
  arrives x y (to_next n k e m w f g) i = inr (k + 1, g)
  arrives x y (from_last n e m f g) i = inl g
  arrives x y (through_other e m r f g) i = inl g

  -- a point of the position itself is one of no child
  outside : (x : Point) → path_of x ≡ path → (k : ℕ) → ¬ IsAtChild path k x
  outside x here k v = no_longer path k v.0 (sym here ∙ v.1)

  -- A position and its children are apart.
  pub parts_apart : AreApart IsInner (own_links spec entered t path) (LinksOfChild spec entered t path) (point.In path) (exit_at path) (child_entry path) (child_exit path) (IsAtChild path)
  parts_apart = record {
    inside_at = λ k x y l.
        let near = links_near _ _ _ (below path k ++ l.links.rest) x y l.links.made in
        (near_below path k l.links.rest x near.0, near_below path k l.links.rest y near.1);
    one_part = λ j k x v w. let e : j ∷ v.0 ≡ k ∷ w.0 = cancel path (j ∷ v.0) (k ∷ w.0) (sym v.1 ∙ w.1) in cc;
    entry_at = λ k. ([], refl);
    exit_at = λ k e. ([], exit_path (below path k) e);
    entry_outside = outside (point.In path) refl;
    exit_outside = λ k e. outside (exit_at path e) (exit_path path e) k;
    own_from = λ x y l i. elim (leaves x y l i) [ inl f ↦ inl (outside x (ap path_of f)) | inr w ↦ inr (w.0, onward, w.1) ];
    own_to = λ x y l i. elim (arrives x y l i) [ inl f ↦ inl (outside y (ap path_of f)) | inr w ↦ inr w ];
  }
