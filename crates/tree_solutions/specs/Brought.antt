-- The elements that constraints bring, of which alone their values are made.
use Rattle.std.specs.Prelude.{List, [], ◌++◌, map, filter, filter_map}
use Rattle.std.specs.List.{flat_map}
use Rattle.flow_term.specs.declared.elem.Elem.{Elem}
use Rattle.flow_term.specs.declared.elem.Elem.TheVariants as elem
use Rattle.flow_term.specs.declared.graph.Unknown.{Unknown}
use Rattle.flow_term.specs.declared.value.Value.{Value}
use Rattle.flow_syntax.specs.declared.spec.Spec.{Spec}
use Rattle.flow_syntax.specs.Expressions.{expr_layer, expressions_of}
use Rattle.flow_syntax.specs.Types.{Sort, Typing, name_sort, pos_sort, str_sort, int_sort, enum_sort, pair_sort}
use Rattle.constraint_theory.specs.Systems.{ConstraintSystem}
use Rattle.value_domains.specs.Values.{is_of_sort}
use Rattle.tree_constraints.specs.declared.constraint.Constraint.{Constraint}
use Rattle.tree_constraints.specs.Elements.{items_of, once, quoted}
use Rattle.tree_constraints.specs.Solutions.{system_over}

-- what the variables of these constraints stand for
abbrev pub bound_by : List Constraint → List Elem
bound_by cs = flat_map (λ c. map (λ b. b.value) c.bindings) cs

-- the texts in quotes of a specification
abbrev pub quotes_of : Spec → List Elem
quotes_of spec = map elem.Str (filter_map (λ e. quoted (expr_layer e)) (expressions_of spec))

-- The elements of each sort that constraints bring, each once: what their variables stand for, texts in quotes and items of
-- the specification, and pairs of these. Integers aren't listed, since they stand in flat values alone.
abbrev pub brought : Spec → List Constraint → Sort → List Elem
brought spec cs name_sort = once (filter (is_of_sort name_sort) (bound_by cs))
brought spec cs pos_sort = once (filter (is_of_sort pos_sort) (bound_by cs))
brought spec cs str_sort = once (filter (is_of_sort str_sort) (bound_by cs) ++ quotes_of spec)
brought spec cs (enum_sort name) = once (map elem.Item (items_of spec name))
brought spec cs int_sort = []
brought spec cs (pair_sort first second) = flat_map (λ a. map (elem.Pair a) (brought spec cs second)) (brought spec cs first)

-- the system of constraints over what they bring themselves
abbrev pub brought_system : Spec → List Typing → List Constraint → List Unknown → ConstraintSystem Constraint Unknown Value
brought_system spec types cs us = system_over spec types (brought spec cs) cs us
