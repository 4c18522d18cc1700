-- What is expected of the parts of an expression in the order in which they are checked, and what the form gives of them.
use Rattle.std.specs.Prelude.{Option, None, Some, if◌then◌else◌}
use Rattle.flow_syntax.specs.declared.spec.Named.{Named}
use Rattle.flow_syntax.specs.declared.spec.Spec.{Spec}
use Rattle.flow_syntax.specs.declared.expr.ExprKind.TheOpen.{ExprKind-F}
use Rattle.flow_syntax.specs.Types.{int_sort, str_sort, element, lattice, table, truth, anything, any_set, any_flat, any_map, any_pair}
use Rattle.flow_syntax.specs.Inferred.{Inferred, is, not_inferable, faulty, is_well_named, name_inferred, property_inferred, property_named, constant_named, set_sort, key_sort, operands, first_of, second_of, pair_inferred, value_of, only, always_inferred}
use Rattle.flow_syntax.specs.Scopes.{Scope, variable_named}
use Rattle.flow_syntax.specs.Expected.{Expected, known, inferred_in, unconstrained, known_sort, expected_element, expected_source, expected_flat, expected_first, expected_second, expected_same, expected_left, expected_right, expected_map, expected_updated_key, expected_updated_value}
use Rattle.flow_syntax.specs.Occurrences.{expected_truth, expected_int, compared_left, compared_right}

-- of the part that is checked first: that from which the others' expected types or scopes follow
abbrev pub expected_first_part : {K E : Type 0} → Expected → ExprKind-F K E → Expected
expected_first_part w (ExprKind-F.MakeFlat e) = expected_flat w
expected_first_part w (ExprKind-F.Fst a) = inferred_in any_pair
expected_first_part w (ExprKind-F.Snd a) = inferred_in any_pair
expected_first_part w (ExprKind-F.Both a b) = expected_first w
expected_first_part w (ExprKind-F.Choose e x from c) = expected_source w
expected_first_part w (ExprKind-F.Look m k) = inferred_in any_map
expected_first_part w (ExprKind-F.Update m k v) = expected_map w
expected_first_part w (ExprKind-F.Set2 op a b) = expected_left (operands op) w
expected_first_part w (ExprKind-F.Arith op a b) = expected_int
expected_first_part w (ExprKind-F.Minus a) = expected_int
expected_first_part w (ExprKind-F.Compare op a b) = compared_left op
expected_first_part w (ExprKind-F.Member e set) = inferred_in any_set
expected_first_part w (ExprKind-F.And a b) = expected_truth
expected_first_part w (ExprKind-F.Or a b) = expected_truth
expected_first_part w (ExprKind-F.Not a) = expected_truth
expected_first_part w (ExprKind-F.Bind x a b) = inferred_in any_flat
expected_first_part w (ExprKind-F.If c a b) = expected_truth
expected_first_part w layer = unconstrained

-- of the part that is checked second, where this is inferred of the first
abbrev pub expected_second_part : {K E : Type 0} → Expected → Inferred → ExprKind-F K E → Expected
expected_second_part w t (ExprKind-F.Both a b) = expected_second w
expected_second_part w t (ExprKind-F.Choose e x from c) = expected_element w
expected_second_part w t (ExprKind-F.Look m k) = known_sort (key_sort t)
expected_second_part w t (ExprKind-F.Update m k v) = expected_updated_key w t
expected_second_part w t (ExprKind-F.Set2 op a b) = expected_right (operands op) w t
expected_second_part w t (ExprKind-F.Arith op a b) = expected_int
expected_second_part w t (ExprKind-F.Compare op a b) = compared_right op t
expected_second_part w t (ExprKind-F.Member e set) = known_sort (set_sort t)
expected_second_part w t (ExprKind-F.And a b) = expected_truth
expected_second_part w t (ExprKind-F.Or a b) = expected_truth
expected_second_part w t (ExprKind-F.Bind x a b) = expected_same any_flat w
expected_second_part w t (ExprKind-F.If c a b) = expected_same anything w
expected_second_part w t layer = unconstrained

-- of the part that is checked third, where this is inferred of the first
abbrev pub expected_third_part : {K E : Type 0} → Expected → Inferred → ExprKind-F K E → Expected
expected_third_part w t (ExprKind-F.Choose e x from c) = expected_truth
expected_third_part w t (ExprKind-F.Update m k v) = expected_updated_value w t
expected_third_part w t (ExprKind-F.If c a b) = expected_same anything w
expected_third_part w t layer = unconstrained

-- what a form of one part gives, where this is inferred of the part
abbrev pub infer_one : {K E : Type 0} → Inferred → ExprKind-F K E → Inferred
infer_one t (ExprKind-F.Fst a) = first_of t
infer_one t (ExprKind-F.Snd a) = second_of t
infer_one t (ExprKind-F.Minus a) = is (element int_sort)
infer_one t (ExprKind-F.Not a) = is truth
infer_one t layer = not_inferable

-- what a form of two or three parts gives, where this is inferred of those that are checked first and second: where it doesn't have the type of the
-- first
abbrev pub infer_made : {K E : Type 0} → Inferred → Inferred → ExprKind-F K E → Inferred
infer_made t u (ExprKind-F.Both a b) = pair_inferred t u
infer_made t u (ExprKind-F.Look m k) = value_of t
infer_made t u (ExprKind-F.Arith op a b) = is (element int_sort)
infer_made t u (ExprKind-F.Compare op a b) = is truth
infer_made t u (ExprKind-F.Member e set) = is truth
infer_made t u (ExprKind-F.And a b) = is truth
infer_made t u (ExprKind-F.Or a b) = is truth
infer_made t u layer = not_inferable

-- and of any
abbrev pub infer_two : {K E : Type 0} → Inferred → Inferred → ExprKind-F K E → Inferred
infer_two t u (ExprKind-F.Update m k v) = always_inferred (only any_map t)
infer_two t u (ExprKind-F.Set2 op a b) = only (operands op) t
infer_two t u layer = infer_made t u layer

-- what a form without parts gives
abbrev pub leaf_inferred : {K E : Type 0} → Spec → Scope → ExprKind-F K E → Inferred
leaf_inferred spec scope (ExprKind-F.Int n) = is (element int_sort)
leaf_inferred spec scope (ExprKind-F.Str s) = is (element str_sort)
leaf_inferred spec scope (ExprKind-F.Truth b) = is truth
leaf_inferred spec scope (ExprKind-F.Ident x) = name_inferred (variable_named scope x) (constant_named spec x)
leaf_inferred spec scope (ExprKind-F.Read p side) = property_inferred (property_named spec p)
leaf_inferred spec scope layer = not_inferable

-- what is inferred of an expression for those that need its type, where its form gives this
abbrev pub outside : {K E : Type 0} → Spec → Scope → ExprKind-F K E → Inferred → Inferred
outside spec scope layer t = if is_well_named spec scope layer then t else faulty

-- what is expected of an argument, of which this lattice is declared
abbrev pub expected_argument : Option Named → Expected
expected_argument None = unconstrained
expected_argument (Some n) = known (lattice (table n.text))
