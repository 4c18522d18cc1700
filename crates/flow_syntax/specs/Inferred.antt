-- The type of an expression that can be inferred from itself.
use Rattle.std.specs.Prelude.{ℕ, Bool, true, List, length, Option, Some, None, find, bytes_eq, ◌==◌, if◌then◌else◌}
use Rattle.std.specs.List.{list_any}
use Rattle.std.specs.Option.{option_map_or}
use Rattle.flow_syntax.specs.declared.expr.Expr.{Expr, fold-Expr}
use Rattle.flow_syntax.specs.declared.expr.ExprKind.{ExprKind, fold-ExprKind, map-ExprKind}
use Rattle.flow_syntax.specs.declared.expr.ExprKind.TheOpen.{ExprKind-F}
use Rattle.flow_syntax.specs.declared.expr.SetOp.{SetOp}
use Rattle.flow_syntax.specs.declared.expr.SetOp.TheVariants as op
use Rattle.flow_syntax.specs.declared.property.PropDecl.{PropDecl}
use Rattle.flow_syntax.specs.declared.spec.Named.{Named}
use Rattle.flow_syntax.specs.declared.spec.Spec.{Spec}
use Rattle.flow_syntax.specs.declared.tables.EnumDecl.{EnumDecl}
use Rattle.flow_syntax.specs.declared.tables.FunctionDecl.{FunctionDecl}
use Rattle.flow_syntax.specs.declared.tables.TableDecl.{TableDecl}
use Rattle.flow_syntax.specs.Expressions.{ExprLayer}
use Rattle.flow_syntax.specs.Types.{Sort, enum_sort, pair_sort, int_sort, str_sort, may, must, flat, map_to, pair_of, table, Typing, lattice, element, truth, lattice_of, Shape, any_lattice, any_set, any_map, has_shape}
use Rattle.flow_syntax.specs.Scopes.{Scope, Variable, can_read, variable_named}

-- What is inferred of an expression's type:
pub data Inferred : Type 0 where
  -- it is this one
  is : Typing → Inferred
  -- it can't be inferred
  not_inferable : Inferred
  -- it follows from a part, a name or a word with a fault
  faulty : Inferred

-- THE LOOK-UPS

abbrev pub property_named : Spec → List ℕ → Option PropDecl
property_named spec x = find (λ p. bytes_eq x p.name.text) spec.properties

abbrev pub function_named : Spec → List ℕ → Option FunctionDecl
function_named spec x = find (λ f. bytes_eq x f.name.text) spec.functions

-- whether a name is one of these
abbrev pub is_among : List ℕ → List Named → Bool
is_among x names = list_any (λ n. bytes_eq x n.text) names

-- the enum of which the name is an item
abbrev pub enum_with : Spec → List ℕ → Option EnumDecl
enum_with spec x = find (λ e. is_among x e.items) spec.enums

-- the lattice of which the name is an element
abbrev pub lattice_with : Spec → List ℕ → Option TableDecl
lattice_with spec x = find (λ l. is_among x l.elements) spec.lattices

-- THE TYPES OF NAMES

-- the type of a name that is no variable: the item's enum, or the element's lattice
abbrev pub constant_typing : Option EnumDecl → Option TableDecl → Option Typing
constant_typing (Some e) l = Some (element (enum_sort e.name.text))
constant_typing None (Some l) = Some (lattice (table l.name.text))
constant_typing None None = None

-- the type of an item or element, if the name is one
abbrev pub constant_named : Spec → List ℕ → Option Typing
constant_named spec x = constant_typing (enum_with spec x) (lattice_with spec x)

abbrev pub is_or_faulty : Option Typing → Inferred
is_or_faulty (Some t) = is t
is_or_faulty None = faulty

abbrev pub sort_inferred : Option Sort → Inferred
sort_inferred (Some s) = is (element s)
sort_inferred None = faulty

-- the type of a name in an expression: the variable's sort, or that of the item or element
abbrev pub name_inferred : Option Variable → Option Typing → Inferred
name_inferred (Some v) constant = sort_inferred v.sort
name_inferred None constant = is_or_faulty constant

abbrev pub property_inferred : Option PropDecl → Inferred
property_inferred (Some p) = is (lattice (lattice_of p.lattice))
property_inferred None = faulty

abbrev pub result_inferred : Option FunctionDecl → Inferred
result_inferred (Some f) = is (lattice (table f.result.text))
result_inferred None = faulty

-- THE TYPES THAT FOLLOW FROM A PART

-- the type of the first part of a pair
abbrev pub first_of : Inferred → Inferred
first_of (is (element (pair_sort a b))) = is (element a)
first_of (is (lattice (pair_of a b))) = is (lattice a)
first_of t = faulty

-- the type of the second part of a pair
abbrev pub second_of : Inferred → Inferred
second_of (is (element (pair_sort a b))) = is (element b)
second_of (is (lattice (pair_of a b))) = is (lattice b)
second_of t = faulty

-- the type of a map's values
abbrev pub value_of : Inferred → Inferred
value_of (is (lattice (map_to k l))) = is (lattice l)
value_of t = faulty

-- the sort of a set's elements
abbrev pub set_sort : Inferred → Option Sort
set_sort (is (lattice (may s))) = Some s
set_sort (is (lattice (must s))) = Some s
set_sort t = None

-- the sort of a flat value
abbrev pub flat_sort : Inferred → Option Sort
flat_sort (is (lattice (flat s))) = Some s
flat_sort t = None

-- the sort of a map's keys
abbrev pub key_sort : Inferred → Option Sort
key_sort (is (lattice (map_to k l))) = Some k
key_sort t = None

-- the type of a pair of elements; other pairs can't be inferred
abbrev pub pair_inferred : Inferred → Inferred → Inferred
pair_inferred faulty t = faulty
pair_inferred t faulty = faulty
pair_inferred (is (element a)) (is (element b)) = is (element (pair_sort a b))
pair_inferred t u = not_inferable

-- a type where it is in the group, where another is a fault of the part that it is inferred from
abbrev pub only : Shape → Inferred → Inferred
only shape (is t) = if has_shape shape t then is t else faulty
only shape t = t

-- a part that must be inferred: it is a fault of its own that it can't be
abbrev pub always_inferred : Inferred → Inferred
always_inferred (is t) = is t
always_inferred t = faulty

-- the types that an operation of two lattice values is for
abbrev pub operands : SetOp → Shape
operands op.Join = any_lattice
operands o = any_set

-- what the form of an expression gives of its type, from what is inferred of its parts
abbrev pub form_inferred : Spec → Scope → ExprKind-F Inferred Inferred → Inferred
form_inferred spec scope (ExprKind-F.Int n) = is (element int_sort)
form_inferred spec scope (ExprKind-F.Str s) = is (element str_sort)
form_inferred spec scope (ExprKind-F.Truth b) = is truth
form_inferred spec scope (ExprKind-F.Ident x) = name_inferred (variable_named scope x) (constant_named spec x)
form_inferred spec scope (ExprKind-F.Read p side) = property_inferred (property_named spec p)
form_inferred spec scope (ExprKind-F.Call f args) = result_inferred (function_named spec f)
form_inferred spec scope (ExprKind-F.Fst a) = first_of a
form_inferred spec scope (ExprKind-F.Snd a) = second_of a
form_inferred spec scope (ExprKind-F.Both a b) = pair_inferred a b
form_inferred spec scope (ExprKind-F.Look m k) = value_of m
form_inferred spec scope (ExprKind-F.Update m k v) = always_inferred (only any_map m)
form_inferred spec scope (ExprKind-F.Set2 o a b) = only (operands o) a
form_inferred spec scope (ExprKind-F.Arith o a b) = is (element int_sort)
form_inferred spec scope (ExprKind-F.Minus a) = is (element int_sort)
form_inferred spec scope (ExprKind-F.Compare o a b) = is truth
form_inferred spec scope (ExprKind-F.Member e s) = is truth
form_inferred spec scope (ExprKind-F.And a b) = is truth
form_inferred spec scope (ExprKind-F.Or a b) = is truth
form_inferred spec scope (ExprKind-F.Not a) = is truth
form_inferred spec scope layer = not_inferable

-- whether the name and the word of a read or call are without a fault
abbrev pub is_well_named : {K E : Type 0} → Spec → Scope → ExprKind-F K E → Bool
is_well_named spec scope (ExprKind-F.Read p side) = can_read scope side
is_well_named spec scope (ExprKind-F.Call f args) = option_map_or (λ d. length d.args == length args) (function_named spec f) true
is_well_named spec scope layer = true

-- what is inferred of an expression's type for those that need it
abbrev pub inferred_layer : Spec → Scope → ExprKind-F Inferred Inferred → Inferred
inferred_layer spec scope layer = if is_well_named spec scope layer then form_inferred spec scope layer else faulty

abbrev pub inferred : Spec → Scope → Expr → Inferred
inferred spec scope = fold-Expr Inferred Inferred (inferred_layer spec scope) (λ e. e.kind)

-- a layer of an expression with what is inferred of its parts
abbrev pub inferred_parts : Spec → Scope → ExprLayer → ExprKind-F Inferred Inferred
inferred_parts spec scope = map-ExprKind ExprKind Expr Inferred Inferred (fold-ExprKind Inferred Inferred (inferred_layer spec scope) (λ e. e.kind)) (inferred spec scope)
