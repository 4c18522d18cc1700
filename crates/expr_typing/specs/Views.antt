-- What the code's values stand for.
use Rattle.std.specs.Prelude.{Option, None, Some}
use Rattle.std.specs.Borrow.{Bor}
use Rattle.flow_syntax.specs.declared.types.ElemSort.{ElemSort}
use Rattle.expr_typing.specs.declared.shape.Shape.{Shape as ShapeValue}
use Rattle.expr_typing.specs.declared.shape.Shape.TheVariants as shapes
use Rattle.expr_typing.specs.declared.inferred.Inferred.{Inferred as InferredValue}
use Rattle.expr_typing.specs.declared.inferred.Inferred.TheVariants as inferred_types
use Rattle.expr_typing.specs.declared.expected.Expected.{Expected as ExpectedValue}
use Rattle.expr_typing.specs.declared.expected.Expected.TheVariants as expectations
use Rattle.flow_syntax.specs.Types.{Sort, sort_of, typing_of, Shape, anything, any_element, any_lattice, any_set, any_may, any_must, any_flat, any_map, any_pair}
use Rattle.flow_syntax.specs.Inferred.{Inferred, is, not_inferable, faulty}
use Rattle.flow_syntax.specs.Expected.{Expected, known, inferred_in, own_choice, if_inferred_in}

abbrev pub shape_of : ShapeValue → Shape
shape_of shapes.Anything = anything
shape_of shapes.AnyElement = any_element
shape_of shapes.AnyLattice = any_lattice
shape_of shapes.AnySet = any_set
shape_of shapes.AnyMay = any_may
shape_of shapes.AnyMust = any_must
shape_of shapes.AnyFlat = any_flat
shape_of shapes.AnyMap = any_map
shape_of shapes.AnyPair = any_pair

abbrev pub inferred_of : InferredValue → Inferred
inferred_of (inferred_types.Is t) = is (typing_of t)
inferred_of inferred_types.NotInferable = not_inferable
inferred_of inferred_types.Faulty = faulty

abbrev pub expected_of : ExpectedValue → Expected
expected_of (expectations.Known t) = known (typing_of t)
expected_of (expectations.InferredIn shape) = inferred_in (shape_of shape)
expected_of (expectations.OwnChoice shape) = own_choice (shape_of shape)
expected_of (expectations.IfInferredIn shape) = if_inferred_in (shape_of shape)

-- the sort behind a reference, if there is one
abbrev pub sort_in : Option (Bor ElemSort) → Option Sort
sort_in None = None
sort_in (Some s) = Some (sort_of s.now)
