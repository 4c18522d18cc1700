-- Which elements the meaning of an expression holds: those that bindings and reads hold, texts, items and integers.
use Rattle.std.specs.Prelude.{◌≡◌, ◌↔◌, ℕ, ℤ, ⊤, IsTrue, List, All, Contains, Option, Some}
use Rattle.std.specs.Map.{keys_of, values_of}
use Rattle.flow_term.specs.declared.elem.Elem.{Elem}
use Rattle.flow_term.specs.declared.elem.Elem.TheVariants as elem
use Rattle.flow_term.specs.declared.value.Bound.{Bound}
use Rattle.flow_term.specs.declared.value.Value.{Value, Value-F, out-Value}
use Rattle.flow_syntax.specs.declared.expr.Expr.{Expr}
use Rattle.flow_syntax.specs.declared.expr.ExprKind.TheOpen.{ExprKind-F}
use Rattle.flow_syntax.specs.declared.expr.Side.{Side}
use Rattle.flow_syntax.specs.declared.spec.Spec.{Spec}
use Rattle.flow_syntax.specs.declared.tables.EnumDecl.{EnumDecl}
use Rattle.flow_syntax.specs.Expressions.{expr_layer, parts_of}
use Rattle.flow_syntax.specs.Inferred.{enum_with}
use Rattle.flow_syntax.specs.Types.{Sort, str_sort, int_sort, enum_sort, pair_sort}
use Rattle.value_domains.specs.Domains.{Domain, may, must, flat, map_to, pair_of, listed}
use Rattle.value_domains.specs.Values.{ValueLayer, elems_in, map_in, left_in, right_in}
use Rattle.expr_meaning.specs.Meaning.{Meaning, Situation, Usable, elem_in, value_in, bound_to}
use Rattle.expr_meaning.specs.Typing.{Variable, variable_of}
use Rattle.expr_meaning.specs.Ranges.{Range, values, elements, truths}

-- a flat value's element, if it has one, is among these
abbrev pub FlatHolds : (Elem → Type 0) → ValueLayer → Type 0
FlatHolds Among (Value-F.Flat e) = Among e
FlatHolds Among _ = ⊤

-- elements of each sort
module _ (Among : Sort → Elem → Type 0) where
  -- each element that a value of the domain holds is among those of its sort; a declared lattice's values hold none
  abbrev pub Holds : Domain → Value → Type 0
  Holds (may s) v = All (Among s) (elems_in (out-Value v))
  Holds (must s) v = All (Among s) (elems_in (out-Value v))
  Holds (flat s) v = FlatHolds (Among s) (out-Value v)
  Holds (map_to s d) v = All (Among s) (keys_of (map_in (out-Value v))) × All (Holds d) (values_of (map_in (out-Value v)))
  Holds (pair_of a b) v = Holds a (left_in (out-Value v)) × Holds b (right_in (out-Value v))
  Holds (listed t) v = ⊤

  -- each element that a meaning holds is among those of its sort
  abbrev pub MeaningHolds : Range → Meaning → Type 0
  MeaningHolds (values d) m = Holds d (value_in m)
  MeaningHolds (elements s) m = Among s (elem_in m)
  MeaningHolds truths m = ⊤

  -- what a variable is bound to is among those of its sort
  abbrev pub BoundHolds : Option Variable → Option Bound → Type 0
  BoundHolds (Some v) (Some b) = Among v.sort b.value
  BoundHolds _ _ = ⊤

  -- each element that bindings and reads hold, as far as they can be used, is among those of its sort
  pub record SituationHolds (usable : Usable) (vs : List Variable) (at : Situation) : Type 0 where
    pub bound : (x : List ℕ) → IsTrue (usable.names x) → BoundHolds (variable_of vs x) (bound_to at.bindings x)
    pub reads : (p : ℕ) (side : Side) → IsTrue (usable.has p side) → Holds (usable.domain p) (at.reads p side)

  -- these elements have what the given expressions make themselves: the integers, the items of each enum, the texts; and a pair is among them where its
  -- parts are
  pub record HasMade (spec : Spec) (given : List Expr) : Type 0 where
    pub integers : (n : ℤ) → Among int_sort (elem.Int n)
    pub items : (x : List ℕ) (e : EnumDecl) → enum_with spec x ≡ Some e → Among (enum_sort e.name.text) (elem.Item x)
    pub texts : (e : Expr) (text : List ℕ) → Contains given e → expr_layer e ≡ ExprKind-F.Str text → Among str_sort (elem.Str text)
    pub pairs : (s t : Sort) (a b : Elem) → Among (pair_sort s t) (elem.Pair a b) ↔ (Among s a × Among t b)

-- a list of expressions has the parts of each
abbrev pub HasParts : List Expr → Type 0
HasParts given = (e part : Expr) → Contains given e → Contains (parts_of e) part → Contains given part
