-- The laws of shapes and plans, each as one sentence.
use Rattle.std.specs.Prelude.{◌≡◌, ◌<◌, ◌^◌, ◌↔◌, ℕ, Bool, true, List, Some}
use Rattle.flow_term.specs.declared.graph.Node.{Node}
use Rattle.flow_term.specs.declared.term.Term.{Term}
use Rattle.flow_term.specs.Trees.{At, Put, term_size}
use Rattle.flow_syntax.specs.declared.spec.Spec.{Spec}
use Rattle.flow_syntax.specs.Control.{enters_child, rule_for}
use Rattle.flow_syntax.specs.Graph.{point_of}
use Rattle.graph_laws.specs.Owners.{HasPlacedItems, Owns}
use Rattle.graph_laws.specs.Parts.{HasFirst, HasLast, onward, child_first, child_last, child_passes}
use Rattle.graph_laws.specs.Parts as position
use Rattle.path_tree.specs.declared.tree.PathTree.{PathTree}
use Rattle.rule_plans.specs.declared.stop.Stop.{Stop}
use Rattle.rule_plans.specs.declared.stop.Stop.TheVariants.{Entry, Exit}
use Rattle.rule_plans.specs.declared.stop.Step.{Step}
use Rattle.rule_plans.specs.Hops.{IsPassed, Leads}
use Rattle.graph_shape.specs.declared.kept.Kept.{Kept}
use Rattle.graph_shape.specs.declared.kept.Summary.{Summary}
use Rattle.graph_shape.specs.declared.outer.Side.{Side}
use Rattle.graph_shape.specs.declared.outer.Side.TheVariants.{First, Last}
use Rattle.graph_shape.specs.declared.plans.Plans.{Plans}
use Rattle.graph_shape.specs.Mirrored.{AreMirrored, ArePlansOf, mirror}
use Rattle.graph_shape.specs.Outer.{IsOuterIn}
use Rattle.graph_shape.specs.Plans.{FirstByStops, IsPlanOf, LastByStops, OwnedByStops}
use Rattle.graph_shape.specs.Replaced.{AreSummaries, PutShape}
use Rattle.graph_shape.specs.Shapes.{AreUsable, IsShapeOf}

-- a first node of the entered position, or a last one
abbrev pub HasOuter : Spec → Side → Term → List ℕ → Node → Type 0
HasOuter spec First t path n = HasFirst spec true t path n
HasOuter spec Last t path n = HasLast spec true t path onward n

-- The outer nodes by the shape of a term of fewer than 2^32 parts are those of the entered position, wherever it stands.
abbrev pub OuterNodesAreByShape : Type 0
OuterNodesAreByShape = (spec : Spec) (plans : Plans) → AreUsable spec plans → (side : Side) (used : Plans) → ArePlansOf side plans used → (t : Term) (s : PathTree Kept) → IsShapeOf spec t s → term_size t < 2 ^ 32
    → (path : List ℕ) (n : Node) → IsOuterIn used side n s path ↔ HasOuter spec side t path n

-- The bits say which entered children are passed.
abbrev pub AreChildBits : Spec → Term → List ℕ → List Bool → Type 0
AreChildBits spec t path bits = (k : ℕ) → enters_child (rule_for spec t) true t k ≡ true → IsPassed bits k ↔ child_passes spec true t path k onward

module _ (spec : Spec) (t : Term) (path : List ℕ) where
  -- the first and last nodes of a child of the entered position
  abbrev pub first_of : ℕ → Node → Type 0
  first_of k n = child_first spec true t path k (point_of n)

  abbrev pub last_of : ℕ → Node → Type 0
  last_of k n = child_last spec true t path k onward (point_of n)

  -- What an entered position is known by is what its steps between stops give.
  pub record IsKnownByStops (steps : List Step) (bits : List Bool) : Type 0 where
    pub first : (n : Node) → HasFirst spec true t path n ↔ FirstByStops steps bits path first_of last_of n
    pub last : (n : Node) → HasLast spec true t path onward n ↔ LastByStops steps bits path first_of last_of n
    pub passes : position.IsPassed spec true t path onward ↔ Leads steps bits Entry Exit
    pub owns : (n m : Node) → Owns spec true t path n m ↔ OwnedByStops steps bits path first_of last_of n m

abbrev pub KnownByStops : Type 0
KnownByStops = (spec : Spec) → HasPlacedItems spec → (t : Term) (path : List ℕ) (steps : List Step) → IsPlanOf (rule_for spec t) t steps → (bits : List Bool) → AreChildBits spec t path bits → IsKnownByStops spec t path steps bits

-- What leads to a stop is what its mirror leads to by the mirrored steps.
abbrev pub PlansCanBeTurned : Type 0
PlansCanBeTurned = (steps turned : List Step) → AreMirrored steps turned → (bits : List Bool) (s u : Stop) → Leads steps bits s u ↔ Leads turned bits (mirror u) (mirror s)

-- The shape after a replacement is that of the tree after it, where the new part and the summaries above it are.
abbrev pub ShapesStayShapes : Type 0
ShapesStayShapes = (spec : Spec) (path : List ℕ) (t : Term) (s : PathTree Kept) (above : List Summary) (old new : Term) (part : PathTree Kept)
    → IsShapeOf spec t s → At t path ≡ Some old → AreSummaries spec t path new above → IsShapeOf spec new part → IsShapeOf spec (Put t path new) (PutShape s path above part)
