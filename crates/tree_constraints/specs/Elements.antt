-- The elements that the values of a tree's properties are made of.
use Rattle.std.specs.Prelude.{ℕ, ◌+◌, Bool, true, false, ◌&&◌, List, [], ◌∷◌, ◌++◌, map, filter_map, Option, Some, None, find, bytes_eq}
use Rattle.std.specs.List.{flat_map}
use Rattle.std.specs.Option.{option_map_or}
use Rattle.std.specs.Ordering.{eq_by_cmp}
use Rattle.list_theory.specs.Lists.{push_all}
use Rattle.flow_term.specs.declared.elem.Elem.{Elem, Elem-F, out-Elem}
use Rattle.flow_term.specs.declared.elem.Elem.TheVariants as elem
use Rattle.flow_term.specs.declared.term.Term.{Term, fold-Term}
use Rattle.flow_term.specs.Annotations.{name_of, term_layer, text_in}
use Rattle.flow_term.specs.Elements.{elem_cmp}
use Rattle.flow_term.specs.Trees.{At, parts}
use Rattle.flow_syntax.specs.declared.expr.ExprKind.TheOpen.{ExprKind-F}
use Rattle.flow_syntax.specs.declared.spec.Spec.{Spec}
use Rattle.flow_syntax.specs.Expressions.{ExprLayer, expr_layer, expressions_of}
use Rattle.value_domains.specs.Values.{has_elem}
use Rattle.flow_syntax.specs.Types.{Sort, name_sort, pos_sort, str_sort, int_sort, enum_sort, pair_sort}

-- the paths below the children, where the first has this number
abbrev pub below_each : ℕ → List (List (List ℕ)) → List (List ℕ)
below_each n [] = []
below_each n (paths ∷ rest) = map (λ path. n ∷ path) paths ++ below_each (n + 1) rest

-- the paths of a term's positions, an outer one before those below it
abbrev pub paths_of : Term → List (List ℕ)
paths_of = fold-Term (List (List ℕ)) (List (List ℕ)) (λ kind. below_each 0 (parts kind)) (λ t. [] ∷ t.kind)

-- the terms at its positions
abbrev pub terms_of : Term → List Term
terms_of tree = filter_map (At tree) (paths_of tree)

-- each element once
abbrev pub once : List Elem → List Elem
once es = push_all (eq_by_cmp elem_cmp) [] es

-- the text of an expression in quotes
abbrev pub quoted : ExprLayer → Option (List ℕ)
quoted (ExprKind-F.Str text) = Some text
quoted layer = None

-- the items of the enum of this name
abbrev pub items_of : Spec → List ℕ → List (List ℕ)
items_of spec name = option_map_or (λ e. map (λ item. item.text) e.items) (find (λ e. bytes_eq name e.name.text) spec.enums) []

-- The elements of each sort, each once: resolved names and strings of the tree, texts in quotes of the specification,
-- positions of the tree, items, pairs. Integers aren't listed, since they stand in flat values alone.
abbrev pub elements_of : Spec → Term → Sort → List Elem
elements_of spec tree name_sort = once (map elem.Name (filter_map name_of (terms_of tree)))
elements_of spec tree str_sort = once (map elem.Str (filter_map (λ t. text_in (term_layer t)) (terms_of tree) ++ filter_map (λ e. quoted (expr_layer e)) (expressions_of spec)))
elements_of spec tree pos_sort = map elem.Pos (paths_of tree)
elements_of spec tree (enum_sort name) = once (map elem.Item (items_of spec name))
elements_of spec tree int_sort = []
elements_of spec tree (pair_sort first second) = flat_map (λ a. map (elem.Pair a) (elements_of spec tree second)) (elements_of spec tree first)

abbrev pub has_parts : (Elem → Bool) → (Elem → Bool) → Elem-F Elem → Bool
has_parts first second (Elem-F.Pair a b) = first a && second b
has_parts first second _ = false

-- whether an element is one of a sort's, by those of the sorts without parts; each integer is, and a pair where its parts are
abbrev pub is_one_of : (Sort → List Elem) → Sort → Elem → Bool
is_one_of elements int_sort e = true
is_one_of elements (pair_sort first second) e = has_parts (is_one_of elements first) (is_one_of elements second) (out-Elem e)
is_one_of elements sort e = has_elem (elements sort) e

-- whether an element is one of a tree's
abbrev pub is_element : Spec → Term → Sort → Elem → Bool
is_element spec tree = is_one_of (elements_of spec tree)
