-- Plans turned round.
use Rattle.std.specs.Prelude.{◌≡◌, ◌↔◌, ℕ, List, Option}
use Rattle.rule_plans.specs.declared.stop.Stop.{Stop}
use Rattle.rule_plans.specs.declared.stop.Stop.TheVariants.{Entry, Exit, Start, End, This, ChildEntry, ChildExit, Child}
use Rattle.rule_plans.specs.declared.stop.Step.{Step}
use Rattle.rule_plans.specs.Hops.{IsStepOf}
use Rattle.graph_shape.specs.declared.outer.Side.{Side}
use Rattle.graph_shape.specs.declared.outer.Side.TheVariants.{First, Last}
use Rattle.graph_shape.specs.declared.plans.Plans.{Plans}
use Rattle.graph_shape.specs.Steps.{steps_for}

-- entries and exits change places
abbrev pub mirror : Stop → Stop
mirror Entry = Exit
mirror Exit = Entry
mirror Start = Start
mirror End = End
mirror This = This
mirror (ChildEntry k) = ChildExit k
mirror (ChildExit k) = ChildEntry k
mirror (Child k) = Child k

-- a step turned round
abbrev pub turn : Step → Step
turn step = record { from = mirror step.to; to = mirror step.from }

-- the steps of the one list are those of the other, turned round
abbrev pub AreMirrored : List Step → List Step → Type 0
AreMirrored steps turned = (s u : Stop) → IsStepOf steps s u ↔ IsStepOf turned (mirror u) (mirror s)

-- the plans are the others, turned round
abbrev pub AreTurned : Plans → Plans → Type 0
AreTurned plans turned = (rule : Option ℕ) → AreMirrored (steps_for plans rule) (steps_for turned rule)

-- the plans by which the outer nodes of a side are listed: the plans themselves, or these turned round
abbrev pub ArePlansOf : Side → Plans → Plans → Type 0
ArePlansOf First plans used = used ≡ plans
ArePlansOf Last plans used = AreTurned plans used
