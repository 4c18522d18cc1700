-- What holds of the meaning of typed expressions.
use Rattle.std.specs.Prelude.{◌≡◌, ℕ, Bool, IsTrue, List, [], ◌∷◌, length, Contains, Some}
use Rattle.flow_term.specs.declared.elem.Elem.{Elem}
use Rattle.flow_term.specs.Orders.{EachOnce}
use Rattle.flow_syntax.specs.declared.expr.Expr.{Expr}
use Rattle.flow_syntax.specs.declared.spec.Spec.{Spec}
use Rattle.flow_syntax.specs.declared.tables.FunctionDecl.{FunctionDecl}
use Rattle.flow_syntax.specs.Expressions.{expressions_of}
use Rattle.flow_syntax.specs.Inferred.{function_named}
use Rattle.flow_syntax.specs.Types.{Sort, Typing}
use Rattle.expr_meaning.specs.Ranges.{Range, domain_in}
use Rattle.value_domains.specs.Lawful.{IsLawful}
use Rattle.expr_meaning.specs.Functions.{IsMonotone, GivesElements}
use Rattle.expr_meaning.specs.Making.{HasParts, HasMade, SituationHolds, MeaningHolds}
use Rattle.expr_meaning.specs.Meaning.{Situation, Usable, meaning}
use Rattle.expr_meaning.specs.Modes.{mode_of}
use Rattle.expr_meaning.specs.Monotone.{FollowsBy}
use Rattle.expr_meaning.specs.SpecRanges.{Agrees, ranges_of}
use Rattle.expr_meaning.specs.Typing.{AreTyped, IsIn, Suits, Variable, held}

-- the tables of a specification keep the laws, and its functions are monotone
pub record HasTables (spec : Spec) (range : Expr → Range) : Type 0 where
  pub lawful : (e : Expr) → IsLawful (domain_in (range e))
  pub results : (x : List ℕ) (f : FunctionDecl) → function_named spec x ≡ Some f → GivesElements spec f
  pub monotone : (x : List ℕ) (f : FunctionDecl) → function_named spec x ≡ Some f → IsMonotone spec f

-- what a typed expression means is in its range
abbrev pub MeaningsAreInRange : Type 0
MeaningsAreInRange = (spec : Spec) (usable : Usable) (range : Expr → Range) → HasTables spec range → (vs : List Variable) (e : Expr) → AreTyped spec usable range (held vs e ∷ [])
    → (at : Situation) → Suits usable vs at → IsIn (range e) (meaning spec range e at)

-- a typed expression follows what it reads as its mode says
abbrev pub ModesAreRight : Type 0
ModesAreRight = (spec : Spec) (usable : Usable) (range : Expr → Range) → HasTables spec range → (vs : List Variable) (e : Expr) → AreTyped spec usable range (held vs e ∷ [])
    → FollowsBy usable (Suits usable vs) (range e) (meaning spec range e) (mode_of range e)

-- what a typed expression means holds only elements that bindings, reads and the specification give: those of any collections, one a sort, that have
-- them, where the expression is one of a list that has the parts of each
abbrev pub NoOthersAreMade : Type 0
NoOthersAreMade = (spec : Spec) (usable : Usable) (range : Expr → Range) → HasTables spec range → (among : Sort → Elem → Bool) (given : List Expr) → HasParts given → HasMade (λ s x. IsTrue (among s x)) spec given
    → (vs : List Variable) (e : Expr) → AreTyped spec usable range (held vs e ∷ []) → Contains given e → (at : Situation) → Suits usable vs at → SituationHolds (λ s x. IsTrue (among s x)) usable vs at
    → MeaningHolds (λ s x. IsTrue (among s x)) (range e) (meaning spec range e at)

-- where no expression stands twice, the ranges of a specification's expressions are those of their types
abbrev pub RangesAgree : Type 0
RangesAgree = (spec : Spec) (types : List Typing) → EachOnce (expressions_of spec) → length types ≡ length (expressions_of spec) → Agrees spec types (ranges_of spec types)
