-- What the expressions of a specification mean where variables and properties have values.
use Rattle.std.specs.Prelude.{ℕ, ◌+◌, ◌*◌, ℤ, pos, Bool, true, false, not, ◌&&◌, ◌||◌, cond, List, [], ◌∷◌, ◌++◌, length, map, find, bytes_eq, get_or, int_lt, int_le, Option, Some, None}
use Rattle.std.specs.Int.{int_wrapping_add, int_wrapping_sub, int_wrapping_mul, int_wrapping_neg}
use Rattle.std.specs.List.{filter}
use mir.Syntax.{w64}
use Rattle.std.specs.Ordering.{eq_by_cmp}
use Rattle.std.specs.BTreeMap.{insert_entry}
use Rattle.flow_term.specs.declared.elem.Elem.{Elem, Elem-F, out-Elem}
use Rattle.flow_term.specs.declared.elem.Elem.TheVariants as elem
use Rattle.flow_term.specs.declared.value.Bound.{Bound}
use Rattle.flow_term.specs.declared.value.Value.{Value, Value-F, out-Value, roll-Value}
use Rattle.flow_term.specs.declared.value.Value.TheVariants as value
use Rattle.flow_term.specs.Elements.{elem_cmp}
use Rattle.flow_syntax.specs.declared.expr.ArithOp.{ArithOp}
use Rattle.flow_syntax.specs.declared.expr.ArithOp.TheVariants as arith_op
use Rattle.flow_syntax.specs.declared.expr.CompareOp.{CompareOp}
use Rattle.flow_syntax.specs.declared.expr.CompareOp.TheVariants as compare
use Rattle.flow_syntax.specs.declared.expr.Expr.{Expr}
use Rattle.flow_syntax.specs.declared.expr.ExprKind.TheOpen.{ExprKind-F}
use Rattle.flow_syntax.specs.declared.expr.SetOp.{SetOp}
use Rattle.flow_syntax.specs.declared.expr.SetOp.TheVariants as op
use Rattle.flow_syntax.specs.declared.expr.Side.{Side}
use Rattle.flow_syntax.specs.declared.spec.Named.{Named}
use Rattle.flow_syntax.specs.declared.spec.Spec.{Spec}
use Rattle.flow_syntax.specs.declared.tables.FunctionDecl.{FunctionDecl}
use Rattle.value_domains.specs.Values.{ValueLayer, union_of, intersection_of, has_elem, elems_in, map_in, left_in, right_in, entries_of, value_at, joined_to, value_or}
use Rattle.flow_syntax.specs.Inferred.{enum_with, function_named}
use Rattle.expr_meaning.specs.Ranges.{Range, domain_in}
use Rattle.value_domains.specs.Domains.{Domain, may, must, flat, map_to, pair_of, listed, table_named, texts_of, place_in, least_of, joined_of, item_in}
use Rattle.flow_syntax.specs.Parts.{Part, PartLayer, by_parts}

-- THE VALUES OF EXPRESSIONS

-- what an expression means: an element, a value of a lattice, or a truth
pub data Meaning : Type 0 where
  an_element : Elem → Meaning
  a_value : Value → Meaning
  a_truth : Bool → Meaning

abbrev pub elem_in : Meaning → Elem
elem_in (an_element e) = e
elem_in _ = elem.Name []

abbrev pub value_in : Meaning → Value
value_in (a_value v) = v
value_in _ = value.Bottom

abbrev pub truth_in : Meaning → Bool
truth_in (a_truth b) = b
truth_in _ = false

-- what the variables stand for, and the value of each property, by its number, at each side
pub record Situation : Type 0 where
  pub bindings : List Bound
  pub reads : ℕ → Side → Value

-- what can be used: properties of these domains, each, by its number, at these sides, and these names
pub record Usable : Type 0 where
  pub domain : ℕ → Domain
  pub has : ℕ → Side → Bool
  pub names : List ℕ → Bool

-- what something means in each situation
abbrev pub Sense : Type 0
Sense = Situation → Meaning

-- the situation with one more variable
abbrev pub with_bound : Situation → List ℕ → Elem → Situation
with_bound at x e = record at { bindings = at.bindings ++ record { name = x; value = e } ∷ [] }

-- NAMES

abbrev pub bound_to : List Bound → List ℕ → Option Bound
bound_to bindings x = find (λ b. bytes_eq x b.name) bindings

-- a name that is no variable: an enum's item, or else a lattice's element
abbrev pub constant_meaning : {X : Type 0} → Option X → List ℕ → Meaning
constant_meaning (Some e) x = an_element (elem.Item x)
constant_meaning None x = a_value (value.Item x)

abbrev pub name_meaning : Spec → Option Bound → List ℕ → Meaning
name_meaning spec (Some b) x = an_element b.value
name_meaning spec None x = constant_meaning (enum_with spec x) x

-- the number of a property
abbrev pub property_number : Spec → List ℕ → ℕ
property_number spec p = place_in (map (λ d. d.name.text) spec.properties) p

-- FUNCTIONS OF TABLES

-- the number of a tuple of elements, where the last one changes fastest
abbrev pub tuple_number : Spec → ℕ → List Named → List Value → ℕ
tuple_number spec n (lattice ∷ lattices) (v ∷ vs) =
    tuple_number spec (n * length (table_named spec.lattices lattice.text).elements + place_in (table_named spec.lattices lattice.text).elements (item_in (out-Value v))) lattices vs
tuple_number spec n _ _ = n

abbrev pub call_value : Spec → Option FunctionDecl → List Value → Value
call_value spec (Some f) vs = value.Item (get_or (texts_of f.table) (tuple_number spec 0 f.args vs) [])
call_value spec None vs = value.Item []

-- SETS

-- the set of these elements
abbrev pub set_of : List Elem → List Elem
set_of xs = union_of [] xs

-- the elements of a that b lacks
abbrev pub difference_of : List Elem → List Elem → List Elem
difference_of a b = filter (λ x. not (has_elem b x)) a

-- what is made of the elements of a set; what is not reached stays so
abbrev pub on_set : (List Elem → List Elem) → ValueLayer → Value
on_set f Value-F.Unreached = value.Unreached
on_set f layer = value.Set (f (elems_in layer))

-- what is made of the elements of two sets, where both are reached
abbrev pub on_sets : (List Elem → List Elem → List Elem) → ValueLayer → ValueLayer → Value
on_sets f Value-F.Unreached b = value.Unreached
on_sets f a Value-F.Unreached = value.Unreached
on_sets f a b = value.Set (f (elems_in a) (elems_in b))

-- an operation on two values of a domain
abbrev pub operation : SetOp → Domain → Value → Value → Value
operation op.Join own a b = joined_of own a b
operation op.Union own a b = on_sets union_of (out-Value a) (out-Value b)
operation op.Inter own a b = on_sets intersection_of (out-Value a) (out-Value b)
operation op.Minus own a b = on_sets difference_of (out-Value a) (out-Value b)

-- whether an element is in a set; all are in what is not reached
abbrev pub is_member : Elem → ValueLayer → Bool
is_member e Value-F.Unreached = true
is_member e layer = has_elem (elems_in layer) e

-- what is made of each element for which the condition holds
abbrev pub chosen : (Elem → Elem) → (Elem → Bool) → List Elem → List Elem
chosen f c xs = set_of (map f (filter c xs))

-- MAPS

abbrev pub is_empty : {X : Type 0} → List X → Bool
is_empty [] = true
is_empty xs = false

abbrev pub is_unreached : ValueLayer → Bool
is_unreached Value-F.Unreached = true
is_unreached _ = false

abbrev pub is_bottom : ValueLayer → Bool
is_bottom Value-F.Bottom = true
is_bottom _ = false

-- whether a value is the least of the domain
abbrev pub is_least : Domain → Value → Bool
is_least (may sort) v = is_empty (elems_in (out-Value v))
is_least (must sort) v = is_unreached (out-Value v)
is_least (flat sort) v = is_bottom (out-Value v)
is_least (map_to sort inner) v = is_empty (map_in (out-Value v))
is_least (pair_of left right) v = is_least left (left_in (out-Value v)) && is_least right (right_in (out-Value v))
is_least (listed t) v = bytes_eq (item_in (out-Value v)) t.bottom

-- the domain of a map's values
abbrev pub values_in : Domain → Domain
values_in (map_to sort inner) = inner
values_in own = own

-- the map without the key
abbrev pub without_key : List (Elem × Value) → Elem → List (Elem × Value)
without_key m k = filter (λ e. not (eq_by_cmp elem_cmp e.0 k)) m

-- the map with the value at the key; the least one takes the key out
abbrev pub updated : Domain → List (Elem × Value) → Elem → Value → List (Elem × Value)
updated values m k v = cond (is_least values v) (without_key m k) (insert_entry elem_cmp m k v)

-- the map with the value joined to what stands at the key; the least one changes nothing
abbrev pub joined_in : Domain → List (Elem × Value) → Elem → Value → List (Elem × Value)
joined_in values m k v = cond (is_least values v) m (insert_entry elem_cmp m k (joined_to (joined_of values) (value_at m k) v))

-- the map of keys and values, where the values of one key are joined
abbrev pub map_of : Domain → List (Elem × Value) → List (Elem × Value) → List (Elem × Value)
map_of values m [] = m
map_of values m (e ∷ es) = map_of values (joined_in values m e.0 e.1) es

abbrev pub key_values : List Elem → List Value → List (Elem × Value)
key_values (k ∷ ks) (v ∷ vs) = (k, v) ∷ key_values ks vs
key_values _ _ = []

-- PAIRS AND FLAT VALUES

abbrev pub first_part : Elem-F Elem → Elem
first_part (Elem-F.Pair a b) = a
first_part _ = elem.Name []

abbrev pub second_part : Elem-F Elem → Elem
second_part (Elem-F.Pair a b) = b
second_part _ = elem.Name []

abbrev pub first_of : Meaning → Meaning
first_of (an_element e) = an_element (first_part (out-Elem e))
first_of m = a_value (left_in (out-Value (value_in m)))

abbrev pub second_of : Meaning → Meaning
second_of (an_element e) = an_element (second_part (out-Elem e))
second_of m = a_value (right_in (out-Value (value_in m)))

abbrev pub pair_meaning : Meaning → Meaning → Meaning
pair_meaning (an_element a) b = an_element (elem.Pair a (elem_in b))
pair_meaning a b = a_value (value.Pair (value_in a) (value_in b))

-- bottom gives bottom, top gives top, and an element what it is bound to give
abbrev pub bind_value : (Elem → Value) → ValueLayer → Value
bind_value f (Value-F.Flat e) = f e
bind_value f layer = roll-Value layer

-- NUMBERS AND COMPARISONS

abbrev pub int_in : Elem-F Elem → ℤ
int_in (Elem-F.Int n) = n
int_in _ = pos 0

abbrev pub number_in : Meaning → ℤ
number_in m = int_in (out-Elem (elem_in m))

-- on 64 bits, wrapping
abbrev pub arith_value : ArithOp → ℤ → ℤ → ℤ
arith_value arith_op.Add a b = int_wrapping_add w64 a b
arith_value arith_op.Sub a b = int_wrapping_sub w64 a b
arith_value arith_op.Mul a b = int_wrapping_mul w64 a b

abbrev pub compared : CompareOp → Elem → Elem → Bool
compared compare.Eq a b = eq_by_cmp elem_cmp a b
compared compare.Ne a b = not (eq_by_cmp elem_cmp a b)
compared compare.Lt a b = int_lt (int_in (out-Elem a)) (int_in (out-Elem b))
compared compare.Le a b = int_le (int_in (out-Elem a)) (int_in (out-Elem b))

-- THE MEANING

abbrev pub elems_given : Situation → List (Part Sense) → List Elem
elems_given at es = map (λ e. elem_in (e.given at)) es

abbrev pub values_given : Situation → List (Part Sense) → List Value
values_given at es = map (λ e. value_in (e.given at)) es

-- whether an optional condition holds
abbrev pub condition_holds : Option (Part Sense) → Situation → Bool
condition_holds None at = true
condition_holds (Some c) at = truth_in (c.given at)

-- what an expression of a form means, whose own domain this is where it is a value of a lattice, from what its parts mean
abbrev pub form_meaning : Spec → Domain → PartLayer Sense → Sense
form_meaning spec own (ExprKind-F.Int n) at = an_element (elem.Int n)
form_meaning spec own (ExprKind-F.Str s) at = an_element (elem.Str s)
form_meaning spec own (ExprKind-F.Truth b) at = a_truth b
form_meaning spec own ExprKind-F.Bottom at = a_value (least_of own)
form_meaning spec own ExprKind-F.Top at = a_value value.Top
form_meaning spec own ExprKind-F.Unreached at = a_value value.Unreached
form_meaning spec own (ExprKind-F.Ident x) at = name_meaning spec (bound_to at.bindings x) x
form_meaning spec own (ExprKind-F.Read p side) at = a_value (at.reads (property_number spec p) side)
form_meaning spec own (ExprKind-F.Call f args) at = a_value (call_value spec (function_named spec f) (values_given at args))
form_meaning spec own (ExprKind-F.MakeFlat e) at = a_value (value.Flat (elem_in (e.given at)))
form_meaning spec own (ExprKind-F.Fst a) at = first_of (a.given at)
form_meaning spec own (ExprKind-F.Snd a) at = second_of (a.given at)
form_meaning spec own (ExprKind-F.Both a b) at = pair_meaning (a.given at) (b.given at)
form_meaning spec own (ExprKind-F.SetOf es) at = a_value (value.Set (set_of (elems_given at es)))
form_meaning spec own (ExprKind-F.Choose e x from c) at =
    a_value (on_set (chosen (λ v. elem_in (e.given (with_bound at x v))) (λ v. condition_holds c (with_bound at x v))) (out-Value (value_in (from.given at))))
form_meaning spec own (ExprKind-F.MapOf ks vs) at = a_value (value.Map (entries_of (map_of (values_in own) [] (key_values (elems_given at ks) (values_given at vs)))))
form_meaning spec own (ExprKind-F.Look m k) at = a_value (value_or (least_of own) (map_in (out-Value (value_in (m.given at)))) (elem_in (k.given at)))
form_meaning spec own (ExprKind-F.Update m k v) at = a_value (value.Map (entries_of (updated (values_in own) (map_in (out-Value (value_in (m.given at)))) (elem_in (k.given at)) (value_in (v.given at)))))
form_meaning spec own (ExprKind-F.Set2 o a b) at = a_value (operation o own (value_in (a.given at)) (value_in (b.given at)))
form_meaning spec own (ExprKind-F.Arith o a b) at = an_element (elem.Int (arith_value o (number_in (a.given at)) (number_in (b.given at))))
form_meaning spec own (ExprKind-F.Minus a) at = an_element (elem.Int (int_wrapping_neg w64 (number_in (a.given at))))
form_meaning spec own (ExprKind-F.Compare o a b) at = a_truth (compared o (elem_in (a.given at)) (elem_in (b.given at)))
form_meaning spec own (ExprKind-F.Member e s) at = a_truth (is_member (elem_in (e.given at)) (out-Value (value_in (s.given at))))
form_meaning spec own (ExprKind-F.And a b) at = a_truth (truth_in (a.given at) && truth_in (b.given at))
form_meaning spec own (ExprKind-F.Or a b) at = a_truth (truth_in (a.given at) || truth_in (b.given at))
form_meaning spec own (ExprKind-F.Not a) at = a_truth (not (truth_in (a.given at)))
form_meaning spec own (ExprKind-F.Bind x a b) at = a_value (bind_value (λ v. value_in (b.given (with_bound at x v))) (out-Value (value_in (a.given at))))
form_meaning spec own (ExprKind-F.If c a b) at = cond (truth_in (c.given at)) (a.given at) (b.given at)

-- what an expression means, where each expression has the range that is given for it
abbrev pub meaning : Spec → (Expr → Range) → Expr → Sense
meaning spec range = by_parts (λ e layer. form_meaning spec (domain_in (range e)) layer)
