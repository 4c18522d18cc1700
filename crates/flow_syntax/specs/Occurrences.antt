-- Where expressions stand: in which scope, and what is expected of their types.
use Rattle.std.specs.Prelude.{List, [], ◌∷◌, ◌++◌, map, Option, Some, None}
use Rattle.flow_syntax.specs.declared.expr.Expr.{Expr}
use Rattle.flow_syntax.specs.declared.expr.ExprKind.TheOpen.{ExprKind-F}
use Rattle.flow_syntax.specs.declared.expr.CompareOp.{CompareOp}
use Rattle.flow_syntax.specs.declared.expr.CompareOp.TheVariants as compare
use Rattle.flow_syntax.specs.declared.spec.Named.{Named}
use Rattle.flow_syntax.specs.declared.spec.Spec.{Spec}
use Rattle.flow_syntax.specs.declared.tables.FunctionDecl.{FunctionDecl}
use Rattle.flow_syntax.specs.Expressions.{ExprLayer, expr_layer}
use Rattle.flow_syntax.specs.Types.{Sort, lattice, table, element, int_sort, truth, Shape, anything, any_element, any_lattice, any_set, any_must, any_flat, any_map, any_pair}
use Rattle.flow_syntax.specs.Scopes.{Scope, with_variable}
use Rattle.flow_syntax.specs.Inferred.{Inferred, function_named, inferred, set_sort, flat_sort, key_sort, only, operands}
use Rattle.flow_syntax.specs.Expected.{Expected, known, inferred_in, unconstrained, known_sort, expected_element, source_shape, expected_source, expected_flat, expected_key, expected_value, expected_first, expected_second, expected_same, expected_left, expected_right, expected_map, expected_updated_key, expected_updated_value, same_type_as}

-- an expression at a place: the scope there, and what is expected of its type
pub record Occurrence : Type 0 where
  pub scope : Scope
  pub expected : Expected
  pub expr : Expr

abbrev pub occurrence : Scope → Expected → Expr → Occurrence
occurrence s w e = record { scope = s; expected = w; expr = e }

abbrev pub expected_truth : Expected
expected_truth = known truth

abbrev pub expected_int : Expected
expected_int = known (element int_sort)

-- an expression, if there is one
abbrev pub optional : Scope → Expected → Option Expr → List Occurrence
optional s w None = []
optional s w (Some e) = occurrence s w e ∷ []

-- the arguments of a call, each with the lattice that is declared for it, if there is one
abbrev pub arguments : Scope → List Named → List Expr → List Occurrence
arguments s names [] = []
arguments s [] (e ∷ es) = occurrence s unconstrained e ∷ arguments s [] es
arguments s (n ∷ names) (e ∷ es) = occurrence s (known (lattice (table n.text))) e ∷ arguments s names es

-- the lattices of a function's arguments
abbrev pub declared_arguments : Option FunctionDecl → List Named
declared_arguments None = []
declared_arguments (Some f) = f.args

-- what is expected of the operands of a comparison, where this is inferred of the left one
abbrev pub compared_left : CompareOp → Expected
compared_left compare.Eq = inferred_in any_element
compared_left compare.Ne = inferred_in any_element
compared_left op = expected_int

abbrev pub compared_right : CompareOp → Inferred → Expected
compared_right compare.Eq left = same_type_as any_element left
compared_right compare.Ne left = same_type_as any_element left
compared_right op left = expected_int

-- the sort of the elements of which a set is made, from what is inferred of the set that they are taken from: none where that isn't of the same kind
abbrev pub chosen_sort : Expected → Inferred → Option Sort
chosen_sort expected set = set_sort (only (source_shape expected) set)

-- the parts of an expression that stands in a scope, where this is expected of its type, in the order of `Expressions`
abbrev pub parts_in : Spec → Scope → Expected → ExprLayer → List Occurrence
parts_in spec s w (ExprKind-F.Call f args) = arguments s (declared_arguments (function_named spec f)) args
parts_in spec s w (ExprKind-F.MakeFlat e) = occurrence s (expected_flat w) e ∷ []
parts_in spec s w (ExprKind-F.Fst a) = occurrence s (inferred_in any_pair) a ∷ []
parts_in spec s w (ExprKind-F.Snd a) = occurrence s (inferred_in any_pair) a ∷ []
parts_in spec s w (ExprKind-F.Both a b) = occurrence s (expected_first w) a ∷ occurrence s (expected_second w) b ∷ []
parts_in spec s w (ExprKind-F.SetOf es) = map (occurrence s (expected_element w)) es
parts_in spec s w (ExprKind-F.Choose e x from c) = occurrence (with_variable s x (chosen_sort w (inferred spec s from))) (expected_element w) e ∷ occurrence s (expected_source w) from
    ∷ optional (with_variable s x (chosen_sort w (inferred spec s from))) expected_truth c
parts_in spec s w (ExprKind-F.MapOf ks vs) = map (occurrence s (expected_key w)) ks ++ map (occurrence s (expected_value w)) vs
parts_in spec s w (ExprKind-F.Look m k) = occurrence s (inferred_in any_map) m ∷ occurrence s (known_sort (key_sort (inferred spec s m))) k ∷ []
parts_in spec s w (ExprKind-F.Update m k v) = occurrence s (expected_map w) m ∷ occurrence s (expected_updated_key w (inferred spec s m)) k ∷ occurrence s (expected_updated_value w (inferred spec s m)) v ∷ []
parts_in spec s w (ExprKind-F.Set2 op a b) = occurrence s (expected_left (operands op) w) a ∷ occurrence s (expected_right (operands op) w (inferred spec s a)) b ∷ []
parts_in spec s w (ExprKind-F.Arith op a b) = occurrence s expected_int a ∷ occurrence s expected_int b ∷ []
parts_in spec s w (ExprKind-F.Minus a) = occurrence s expected_int a ∷ []
parts_in spec s w (ExprKind-F.Compare op a b) = occurrence s (compared_left op) a ∷ occurrence s (compared_right op (inferred spec s a)) b ∷ []
parts_in spec s w (ExprKind-F.Member e set) = occurrence s (known_sort (set_sort (inferred spec s set))) e ∷ occurrence s (inferred_in any_set) set ∷ []
parts_in spec s w (ExprKind-F.And a b) = occurrence s expected_truth a ∷ occurrence s expected_truth b ∷ []
parts_in spec s w (ExprKind-F.Or a b) = occurrence s expected_truth a ∷ occurrence s expected_truth b ∷ []
parts_in spec s w (ExprKind-F.Not a) = occurrence s expected_truth a ∷ []
parts_in spec s w (ExprKind-F.Bind x a b) = occurrence s (inferred_in any_flat) a ∷ occurrence (with_variable s x (flat_sort (inferred spec s a))) (expected_same any_flat w) b ∷ []
parts_in spec s w (ExprKind-F.If c a b) = occurrence s expected_truth c ∷ occurrence s (expected_same anything w) a ∷ occurrence s (expected_same anything w) b ∷ []
parts_in spec s w layer = []

abbrev pub parts_of : Spec → Occurrence → List Occurrence
parts_of spec p = parts_in spec p.scope p.expected (expr_layer p.expr)

-- the types that a form of expressions can have, where its type isn't inferred
abbrev pub form_shape : {K E : Type 0} → ExprKind-F K E → Shape
form_shape ExprKind-F.Bottom = any_lattice
form_shape ExprKind-F.Top = any_flat
form_shape ExprKind-F.Unreached = any_must
form_shape (ExprKind-F.MakeFlat e) = any_flat
form_shape (ExprKind-F.Both a b) = any_pair
form_shape (ExprKind-F.SetOf es) = any_set
form_shape (ExprKind-F.Choose e x from c) = any_set
form_shape (ExprKind-F.MapOf ks vs) = any_map
form_shape (ExprKind-F.Update m k v) = any_map
form_shape (ExprKind-F.Set2 op a b) = operands op
form_shape (ExprKind-F.Bind x a b) = any_flat
form_shape layer = anything
