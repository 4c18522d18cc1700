-- The points of stops.
use Rattle.std.proofs.Common.{◌≡◌, ℕ, ◌+◌, ◌==◌, Bool, true, false, ◌||◌, ◌&&◌, List, [], ◌∷◌, Option, Some, None, refl, sym, ap, ◌∙◌, inl, inr, eq-eqb}
use Rattle.std.specs.Prelude.{Contains, option_map}
use Rattle.std.specs.List.{list_any}
use Rattle.std.specs.Option.{option_map_or}
use Rattle.std.proofs.lemmas.Option.{same_Some}
use Rattle.std.proofs.lemmas.List.Elements.{Contains-push_cases, Contains-append_cases}
use Rattle.flow_term.specs.declared.term.Term.{Term}
use Rattle.flow_term.specs.Annotations.{term_layer}
use Rattle.flow_term.specs.declared.graph.Point.{Point}
use Rattle.flow_term.specs.declared.graph.Point.TheVariants as point
use Rattle.flow_syntax.specs.declared.rule.FlowRule.{FlowRule}
use Rattle.flow_syntax.specs.declared.rule.Chain.{Chain}
use Rattle.flow_syntax.specs.declared.rule.Item.{Item}
use Rattle.flow_syntax.specs.declared.rule.ItemKind.{ItemKind}
use Rattle.flow_syntax.specs.declared.rule.ItemKind.TheVariants as item
use Rattle.flow_syntax.specs.Matching.{is_list}
use Rattle.flow_syntax.specs.Control.{argument, enters, enters_argument, enters_child}
use Rattle.flow_syntax.specs.Graph.{IsInner, LinksAt, in_chain, through_empty, into_first, to_next, from_last, through_other, arriving, below, leaving}
use Rattle.flow_syntax.proofs.LinkEnds.{contains_at}
use Rattle.flow_links.proofs.SetLemmas.{none_in_nil}
use Rattle.graph_laws.proofs.Apart.{path_of}
use Rattle.graph_shape.proofs.Children.{never_child, same_child}
use Rattle.rule_plans.specs.declared.stop.Stop.{Stop}
use Rattle.rule_plans.specs.declared.stop.Stop.TheVariants.{Entry, Exit, Start, End, This, ChildEntry, ChildExit, Child}
use Rattle.rule_plans.specs.Hops.{IsInnerStop}
use Rattle.graph_shape.specs.Plans.{point_at}

-- no two stops of a position are one point
pub one_stop : (path : List ℕ) (s t : Stop) → point_at path s ≡ point_at path t → s ≡ t
one_stop path Entry Entry h = refl
one_stop path Exit Exit h = refl
one_stop path Start Start h = refl
one_stop path End End h = refl
one_stop path This This h = refl
one_stop path (ChildEntry j) (ChildEntry k) h = ap ChildEntry (same_child path j k (ap path_of h))
one_stop path (ChildExit j) (ChildExit k) h = ap ChildExit (same_child path j k (ap path_of h))
one_stop path (Child j) (Child k) h = ap Child (same_child path j k (ap path_of h))
one_stop path Entry (ChildEntry k) h = absurd (never_child path k (ap path_of h))
one_stop path (ChildEntry k) Entry h = absurd (never_child path k (sym (ap path_of h)))
one_stop path Exit (ChildExit k) h = absurd (never_child path k (ap path_of h))
one_stop path (ChildExit k) Exit h = absurd (never_child path k (sym (ap path_of h)))
one_stop path This (Child k) h = absurd (never_child path k (ap path_of h))
one_stop path (Child k) This h = absurd (never_child path k (sym (ap path_of h)))
one_stop _ _ _ h = cc

-- entries and exits are inner points
pub inner_stop : (path : List ℕ) (s : Stop) → IsInner (point_at path s) → IsInnerStop s
inner_stop path Entry h = tt
inner_stop path Exit h = tt
inner_stop path (ChildEntry k) h = tt
inner_stop path (ChildExit k) h = tt
inner_stop path Start h = h
inner_stop path End h = h
inner_stop path This h = h
inner_stop path (Child k) h = h

pub inner_point : (path : List ℕ) (s : Stop) → IsInnerStop s → IsInner (point_at path s)
inner_point path Entry h = tt
inner_point path Exit h = tt
inner_point path (ChildEntry k) h = tt
inner_point path (ChildExit k) h = tt
inner_point path Start h = h
inner_point path End h = h
inner_point path This h = h
inner_point path (Child k) h = h

-- A link into a child enters it.

any_here : (a b : Bool) → a ≡ true → (a || b) ≡ true
any_here true b h = refl
any_here false b h = cc

any_there : (a b : Bool) → b ≡ true → (a || b) ≡ true
any_there true b h = refl
any_there false b h = h

pub any_of : {X : Type 0} (p : X → Bool) (xs : List X) (x : X) → Contains xs x → p x ≡ true → list_any p xs ≡ true
any_of p [] x h e = absurd (none_in_nil x h)
any_of p (y ∷ xs) x h e = elim (Contains-append_cases (y ∷ []) xs x h) [
  | inl here ↦ elim (Contains-push_cases [] y x here) [ inl nil ↦ absurd (none_in_nil x nil) | inr same ↦ any_here (p y) (list_any p xs) (ap p same ∙ e) ]
  | inr there ↦ any_there (p y) (list_any p xs) (any_of p xs x there e)
]

whole_enters : (path : List ℕ) (k : ℕ) (o : Option ℕ) → option_map point.In (option_map (below path) o) ≡ Some (point.In (below path k)) → option_map_or (λ j. j == k) o false ≡ true
whole_enters path k None h = cc
whole_enters path k (Some j) h = eq-eqb j k (same_child path j k (ap path_of (same_Some (point.In (below path j)) (point.In (below path k)) h)))

single_not : (path : List ℕ) (k : ℕ) (o : Option ℕ) → option_map point.Node (option_map (below path) o) ≡ Some (point.In (below path k)) → ⊥
single_not path k None h = cc
single_not path k (Some j) h = cc

arriving_enters : (rule : FlowRule) (path : List ℕ) (k : ℕ) (it : ItemKind) → arriving rule path it ≡ Some (point.In (below path k)) → enters_argument rule k it ≡ true
arriving_enters rule path k item.Entry h = absurd (never_child path k (ap path_of (same_Some (point.In path) (point.In (below path k)) h)))
arriving_enters rule path k item.Exit h = cc
arriving_enters rule path k item.Start h = cc
arriving_enters rule path k item.End h = cc
arriving_enters rule path k item.This h = cc
arriving_enters rule path k (item.Whole x) h = whole_enters path k (argument rule x) h
arriving_enters rule path k (item.Single x) h = absurd (single_not path k (argument rule x) h)

by_rule : (matching : Option FlowRule) (t : Term) (k : ℕ) (rule : FlowRule) → matching ≡ Some rule → enters rule k ≡ true → enters_child matching true t k ≡ true
by_rule matching t k rule m e = rw m (any_there (true && is_list (term_layer t)) ((rule.root || true) && enters rule k) (both (rule.root || true) (enters rule k) (any_there rule.root true refl) e))
  where
    both : (a b : Bool) → a ≡ true → b ≡ true → (a && b) ≡ true
    both true true h e = refl
    both true false h e = cc
    both false b h e = cc

pub by_list : (matching : Option FlowRule) (t : Term) (k : ℕ) → is_list (term_layer t) ≡ true → enters_child matching true t k ≡ true
by_list matching t k l = any_here (true && is_list (term_layer t)) (option_map_or (λ rule. (rule.root || true) && enters rule k) matching false) l

pub link_enters : (matching : Option FlowRule) (t : Term) (path : List ℕ) (k : ℕ) (a b : Point) → LinksAt matching true t path a b → b ≡ point.In (below path k) → enters_child matching true t k ≡ true
link_enters matching t path k a b (in_chain rule chain left right c has pair l r) e =
    by_rule matching t k rule c.0
    (any_of (λ (ch : Chain). list_any (λ (it : Item). enters_argument rule k it.kind) ch.items) rule.chains chain has
    (any_of (λ (it : Item). enters_argument rule k it.kind) chain.items right (contains_at chain.items (pair.0 + 1) right pair.2)
    (arriving_enters rule path k right.kind (r ∙ ap Some e))))
link_enters matching t path k a b (through_empty i l f g) e = by_list matching t k l.0
link_enters matching t path k a b (into_first n i l f g) e = by_list matching t k l.0
link_enters matching t path k a b (to_next n j i l w f g) e = by_list matching t k l.0
link_enters matching t path k a b (from_last n i l f g) e = by_list matching t k l.0
link_enters matching t path k a b (through_other i l r f g) e = absurd (cc (g, e))

-- A link out of a child leaves one that is entered.

whole_left : (path : List ℕ) (k : ℕ) (o : Option ℕ) → option_map point.Out (option_map (below path) o) ≡ Some (point.Out (below path k)) → option_map_or (λ j. j == k) o false ≡ true
whole_left path k None h = cc
whole_left path k (Some j) h = eq-eqb j k (same_child path j k (ap path_of (same_Some (point.Out (below path j)) (point.Out (below path k)) h)))

single_left : (path : List ℕ) (k : ℕ) (o : Option ℕ) → option_map point.Node (option_map (below path) o) ≡ Some (point.Out (below path k)) → ⊥
single_left path k None h = cc
single_left path k (Some j) h = cc

leaving_enters : (rule : FlowRule) (path : List ℕ) (k : ℕ) (it : ItemKind) → leaving rule path it ≡ Some (point.Out (below path k)) → enters_argument rule k it ≡ true
leaving_enters rule path k item.Entry h = cc
leaving_enters rule path k item.Exit h = absurd (never_child path k (ap path_of (same_Some (point.Out path) (point.Out (below path k)) h)))
leaving_enters rule path k item.Start h = cc
leaving_enters rule path k item.End h = cc
leaving_enters rule path k item.This h = cc
leaving_enters rule path k (item.Whole x) h = whole_left path k (argument rule x) h
leaving_enters rule path k (item.Single x) h = absurd (single_left path k (argument rule x) h)

pub link_leaves : (matching : Option FlowRule) (t : Term) (path : List ℕ) (k : ℕ) (a b : Point) → LinksAt matching true t path a b → a ≡ point.Out (below path k) → enters_child matching true t k ≡ true
link_leaves matching t path k a b (in_chain rule chain left right c has pair l r) e =
    by_rule matching t k rule c.0
    (any_of (λ (ch : Chain). list_any (λ (it : Item). enters_argument rule k it.kind) ch.items) rule.chains chain has
    (any_of (λ (it : Item). enters_argument rule k it.kind) chain.items left (contains_at chain.items pair.0 left pair.1)
    (leaving_enters rule path k left.kind (l ∙ ap Some e))))
link_leaves matching t path k a b (through_empty i l f g) e = by_list matching t k l.0
link_leaves matching t path k a b (into_first n i l f g) e = by_list matching t k l.0
link_leaves matching t path k a b (to_next n j i l w f g) e = by_list matching t k l.0
link_leaves matching t path k a b (from_last n i l f g) e = by_list matching t k l.0
link_leaves matching t path k a b (through_other i l r f g) e = absurd (cc (f, e))
