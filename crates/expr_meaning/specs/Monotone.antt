-- When what an expression means follows what it reads.
use Rattle.std.specs.Prelude.{◌≡◌, ℕ, true, ⊤, IsTrue}
use Rattle.flow_syntax.specs.declared.expr.Side.{Side}
use Rattle.flow_syntax.specs.declared.property.Mode.{Mode}
use Rattle.flow_syntax.specs.declared.property.Mode.TheVariants as mode
use Rattle.expr_meaning.specs.Ranges.{Range, values, elements, truths}
use Rattle.value_domains.specs.Domains.{IsBelowIn}
use Rattle.expr_meaning.specs.Meaning.{Meaning, Situation, Usable, Sense, value_in, truth_in}

-- how two follow each other: they are the same; the first is below; it is above; nothing is known
abbrev pub Moves : {X : Type 0} → Mode → (X → X → Type 0) → X → X → Type 0
Moves mode.Fixed R x y = x ≡ y
Moves mode.Up R x y = R x y
Moves mode.Down R x y = R y x
Moves mode.Mixed R x y = ⊤

-- one meaning is below another in a range: values by the order of the domain; false is below true; elements stand side by side
abbrev pub IsBelowAs : Range → Meaning → Meaning → Type 0
IsBelowAs (values d) a b = IsBelowIn d (value_in a) (value_in b)
IsBelowAs (elements s) a b = a ≡ b
IsBelowAs truths a b = truth_in a ≡ true → truth_in b ≡ true

-- the same bindings, and of each property, at each side at which it can be read, a value that is greater or the same
pub record IsLower (usable : Usable) (low high : Situation) : Type 0 where
  pub bindings : low.bindings ≡ high.bindings
  pub reads : (p : ℕ) (side : Side) → IsTrue (usable.has p side) → IsBelowIn (usable.domain p) (low.reads p side) (high.reads p side)

-- what its mode says of an expression: that greater reads give a greater meaning, a lower one, or the same, in all situations that are possible
abbrev pub FollowsBy : Usable → (Situation → Type 0) → Range → Sense → Mode → Type 0
FollowsBy usable IsPossible range sense m = (low high : Situation) → IsPossible low → IsPossible high → IsLower usable low high → Moves m (IsBelowAs range) (sense low) (sense high)
