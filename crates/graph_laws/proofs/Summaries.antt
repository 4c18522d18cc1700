-- What is known of a position by what is known of its children.
use Rattle.std.proofs.Common.{◌≡◌, ◌↔◌, ◌⊎◌, ℕ, Bool, List, refl, inl, inr}
use Rattle.flow_term.specs.declared.term.Term.{Term}
use Rattle.flow_term.specs.declared.graph.Node.{Node}
use Rattle.flow_term.specs.declared.graph.Point.{Point}
use Rattle.flow_term.specs.declared.graph.Point.TheVariants as point
use Rattle.flow_syntax.specs.declared.spec.Spec.{Spec}
use Rattle.flow_syntax.specs.Graph.{IsInner, below, point_of}
use Rattle.flow_links.specs.Below.{LinksBelow}
use Rattle.way_theory.specs.Parts.{own_link, enter, leave, pass}
use Rattle.way_theory.specs.Ways.{Way}
use Rattle.way_theory.proofs.WayLemmas.{way_map}
use Rattle.way_theory.proofs.HopLemmas.{ways_hops}
use Rattle.way_theory.proofs.PartLemmas.{ways_from_entry, ways_to_exit}
use Rattle.graph_laws.specs.Laws.{KnownBySteps, StepsAreHops}
use Rattle.graph_laws.specs.Owners.{HasPlacedItems, Owns}
use Rattle.graph_laws.specs.Parts.{Exit, HasFirst, HasLast, IsPassed, LinksOfChild, child_entry, child_exit, child_first, child_last, child_passes, exit_at, own_links, own_steps}
use Rattle.graph_laws.proofs.Apart.{IsAtChild, exit_inner, parts_apart}
use Rattle.graph_laws.proofs.Nodes.{no_inner_node}
use Rattle.graph_laws.proofs.Wholes.{whole_way}

module _ (spec : Spec) (placed : HasPlacedItems spec) (entered : Bool) (t : Term) (path : List ℕ) where
  abbrev Steps : Point → Point → Type 0
  Steps = Way IsInner (own_steps spec entered t path)

  -- the first nodes of a position
  pub first_by_steps : (n : Node) → HasFirst spec entered t path n ↔ Steps (point.In path) (point_of n)
  first_by_steps n =
      let both = ways_from_entry IsInner (own_links spec entered t path) (LinksOfChild spec entered t path) (point.In path) (exit_at path) (child_entry path) (child_exit path)
      (IsAtChild path) (parts_apart spec placed entered t path) (point_of n) (inr (no_inner_node n)) in
      let whole = whole_way spec entered t path (point.In path) (point_of n) in
      (λ w. both.0 (whole.0 w), λ w. whole.1 (both.1 w))

  -- what leads to one of its exits, from its entry or from a node
  to_exit : (e : Exit) (a : Point) → (a ≡ point.In path) ⊎ (¬ IsInner a) → Way IsInner (LinksBelow spec entered t path) a (exit_at path e) ↔ Steps a (exit_at path e)
  to_exit e a from =
      let both = ways_to_exit IsInner (own_links spec entered t path) (LinksOfChild spec entered t path) (point.In path) (exit_at path) (child_entry path) (child_exit path)
      (IsAtChild path) (parts_apart spec placed entered t path) e a from in
      let whole = whole_way spec entered t path a (exit_at path e) in
      (λ w. both.0 (whole.0 w), λ w. whole.1 (both.1 w))

  -- its last nodes
  pub last_by_steps : (e : Exit) (n : Node) → HasLast spec entered t path e n ↔ Steps (point_of n) (exit_at path e)
  last_by_steps e n = to_exit e (point_of n) (inr (no_inner_node n))

  -- whether it is passed
  pub passes_by_steps : (e : Exit) → IsPassed spec entered t path e ↔ Steps (point.In path) (exit_at path e)
  passes_by_steps e = to_exit e (point.In path) (inl refl)

-- the three facts as one law
pub known_by_steps : KnownBySteps
known_by_steps spec placed entered t path = record {
  first = first_by_steps spec placed entered t path;
  last = last_by_steps spec placed entered t path;
  passes = passes_by_steps spec placed entered t path;
}

-- the ways of its steps are hops
pub steps_hops : StepsAreHops
steps_hops spec entered t path a b other = ways_hops IsInner (own_links spec entered t path) (child_entry path) (child_exit path)
    (child_first spec entered t path) (child_last spec entered t path) (child_passes spec entered t path)
    (λ k. tt) (λ k e. exit_inner (below path k) e) (λ k m f. f.node) (λ k e m f. f.node) a b other

-- Two positions have the same steps where their own links are the same, and their children's first and last nodes and passing.
pub record KnowsMore (spec : Spec) (entered : Bool) (t : Term) (entered' : Bool) (t' : Term) (path : List ℕ) : Type 0 where
  pub links : (x y : Point) → own_links spec entered t path x y → own_links spec entered' t' path x y
  pub first : (k : ℕ) (n : Point) → child_first spec entered t path k n → child_first spec entered' t' path k n
  pub last : (k : ℕ) (e : Exit) (n : Point) → child_last spec entered t path k e n → child_last spec entered' t' path k e n
  pub passes : (k : ℕ) (e : Exit) → child_passes spec entered t path k e → child_passes spec entered' t' path k e

step_kept : (spec : Spec) (entered : Bool) (t : Term) (entered' : Bool) (t' : Term) (path : List ℕ) → KnowsMore spec entered t entered' t' path → (x y : Point) → own_steps spec entered t path x y → own_steps spec entered' t' path x y
step_kept spec entered t entered' t' path m x y (own_link l) = own_link (m.links x y l)
step_kept spec entered t entered' t' path m x y (enter k f n) = enter k f (m.first k y n)
step_kept spec entered t entered' t' path m x y (leave k e f n) = leave k e f (m.last k e x n)
step_kept spec entered t entered' t' path m x y (pass k e f g p) = pass k e f g (m.passes k e p)

-- the ways of the steps are kept
pub steps_kept : (spec : Spec) (entered : Bool) (t : Term) (entered' : Bool) (t' : Term) (path : List ℕ) → KnowsMore spec entered t entered' t' path → (x y : Point)
    → Way IsInner (own_steps spec entered t path) x y → Way IsInner (own_steps spec entered' t' path) x y
steps_kept spec entered t entered' t' path m x y = way_map IsInner _ _ x y (step_kept spec entered t entered' t' path m)

-- A position owns the same edges where it has the same links and knows the same of its children.
pub owns_same : (spec : Spec) (entered : Bool) (t : Term) (entered' : Bool) (t' : Term) (path : List ℕ) → KnowsMore spec entered t entered' t' path → KnowsMore spec entered' t' entered t path → (from to : Node)
    → Owns spec entered t path from to ↔ Owns spec entered' t' path from to
owns_same spec entered t entered' t' path m m' from to = (steps_kept spec entered t entered' t' path m (point_of from) (point_of to), steps_kept spec entered' t' entered t path m' (point_of from) (point_of to))
