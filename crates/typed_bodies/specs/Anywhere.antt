-- The expressions of a specification, wherever they stand.
use Rattle.std.specs.Prelude.{◌≡◌, ◌==◌, ◌&&◌, bytes_eq, ℕ, Bool, IsTrue, List, map, Option, Some, None, Contains}
use Rattle.std.specs.List.{list_any}
use Rattle.flow_term.specs.declared.elem.Elem.{Elem}
use Rattle.flow_syntax.specs.declared.expr.Expr.{Expr}
use Rattle.flow_syntax.specs.declared.expr.ExprKind.TheOpen.{ExprKind-F}
use Rattle.flow_syntax.specs.declared.expr.Side.{Side}
use Rattle.flow_syntax.specs.declared.spec.Spec.{Spec}
use Rattle.flow_syntax.specs.Expressions.{expressions_of, parts_in}
use Rattle.flow_syntax.specs.Occurrences.{Occurrence, parts_of}
use Rattle.flow_syntax.specs.ExprTypes.{wholes_of}
use Rattle.flow_syntax.specs.Scopes.{Scope}
use Rattle.flow_syntax.specs.Types.{Sort, int_sort, Typing}
use Rattle.expr_meaning.specs.SpecRanges.{domains_of, ranges_of}
use Rattle.expr_meaning.specs.Making.{HasMade, SituationHolds, MeaningHolds}
use Rattle.expr_meaning.specs.Meaning.{Situation, Usable, property_number}
use Rattle.expr_meaning.specs.Modes.{mode_of}
use Rattle.expr_meaning.specs.Monotone.{FollowsBy}
use Rattle.flow_syntax.specs.Parts.{PartLayer, by_parts}
use Rattle.expr_meaning.specs.Same.{same_side}
use Rattle.expr_meaning.specs.Typing.{Variable, IsIn, Suits}
use Rattle.typed_bodies.specs.Accepted.{IsTypedBy, HasLawfulTables, sense_of}

-- An expression of a specification stands at this place: a whole one, or a part of one.
pub data IsOccurrenceIn (spec : Spec) : Occurrence → Type 0 where
  whole : (q : Occurrence) → Contains (wholes_of spec) q → IsOccurrenceIn spec q
  part : (p q : Occurrence) → IsOccurrenceIn spec p → Contains (parts_of spec p) q → IsOccurrenceIn spec q

-- whether an expression of a form reads the property of this number at this side, or a part of it does
abbrev pub reads_in : Spec → PartLayer (ℕ → Side → Bool) → ℕ → Side → Bool
reads_in spec (ExprKind-F.Read x s) p side = (property_number spec x == p) && same_side s side
reads_in spec layer p side = list_any (λ e. e.given p side) (parts_in layer)

abbrev pub reads_at : Spec → Expr → ℕ → Side → Bool
reads_at spec = by_parts (λ e layer. reads_in spec layer)

-- whether an expression of a form is this name, or a part of it has it
abbrev pub names_in : PartLayer (List ℕ → Bool) → List ℕ → Bool
names_in (ExprKind-F.Ident x) y = bytes_eq x y
names_in layer y = list_any (λ e. e.given y) (parts_in layer)

abbrev pub names_at : Expr → List ℕ → Bool
names_at = by_parts (λ e layer. names_in layer)

-- the variables of a scope with their sorts, which are all known where there is no fault
abbrev pub sort_or_int : Option Sort → Sort
sort_or_int (Some s) = s
sort_or_int None = int_sort

abbrev pub variables_at : Scope → List Variable
variables_at s = map (λ v. record { name = v.name; sort = sort_or_int v.sort }) s.variables

-- what is used by an expression
abbrev pub used_by : Spec → Expr → Usable
used_by spec e = record { domain = domains_of spec; has = reads_at spec e; names = names_at e }

-- an expression can be evaluated where it stands: the variables that it has are bound, and each value that it reads is one of the property's domain
abbrev pub CanEvaluate : Spec → Occurrence → Situation → Type 0
CanEvaluate spec q = Suits (used_by spec q.expr) (variables_at q.scope)

-- an expression gives a meaning in the range of its type, and follows what it reads by its mode
pub record IsGoodAt (spec : Spec) (types : List Typing) (q : Occurrence) : Type 0 where
  pub value : (at : Situation) → CanEvaluate spec q at → IsIn (ranges_of spec types q.expr) (sense_of spec types q.expr at)
  pub follows : FollowsBy (used_by spec q.expr) (CanEvaluate spec q) (ranges_of spec types q.expr) (sense_of spec types q.expr) (mode_of (ranges_of spec types) q.expr)

abbrev pub ExpressionsAreGood : Type 0
ExpressionsAreGood = (spec : Spec) (types : List Typing) → IsTypedBy spec types → HasLawfulTables spec → (q : Occurrence) → IsOccurrenceIn spec q → IsGoodAt spec types q

-- each expression of a specification stands somewhere
abbrev pub ExpressionsStand : Type 0
ExpressionsStand = (spec : Spec) (types : List Typing) → IsTypedBy spec types → (e : Expr) → Contains (expressions_of spec) e → (q : Occurrence) × IsOccurrenceIn spec q × (q.expr ≡ e)

-- What an expression means holds only elements that bindings and reads hold, texts of the specification, items of enums, and integers: those of any
-- collections, one a sort, that have them.
abbrev pub ExpressionsMakeNoOthers : Type 0
ExpressionsMakeNoOthers = (spec : Spec) (types : List Typing) → IsTypedBy spec types → HasLawfulTables spec → (among : Sort → Elem → Bool) → HasMade (λ s x. IsTrue (among s x)) spec (expressions_of spec)
    → (q : Occurrence) → IsOccurrenceIn spec q → (at : Situation) → CanEvaluate spec q at → SituationHolds (λ s x. IsTrue (among s x)) (used_by spec q.expr) (variables_at q.scope) at
    → MeaningHolds (λ s x. IsTrue (among s x)) (ranges_of spec types q.expr) (sense_of spec types q.expr at)
