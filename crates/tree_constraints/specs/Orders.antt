-- The orders of unknowns and constraints, and how they are told apart.
use Rattle.std.specs.Prelude.{ℕ, Bool, true, false, ◌&&◌, List, [], ◌∷◌, Option, Some, None, bytes_eq, nat_eq}
use Rattle.std.specs.Ordering.{nat_cmp, ordering_then, eq_by_cmp}
use Rattle.std.specs.Cmp.Lexicographic.{slice_cmp}
use Rattle.std.specs.declared.cmp.Ordering.{Ordering}
use Rattle.std.specs.declared.cmp.Ordering.TheVariants.{Less, Equal, Greater}
use Rattle.flow_term.specs.declared.graph.Unknown.{Unknown}
use Rattle.flow_term.specs.declared.value.Bound.{Bound}
use Rattle.flow_term.specs.Elements.{elem_cmp}
use Rattle.flow_term.specs.Orders.{node_cmp}
use Rattle.constraint_theory.specs.Systems.{Equality}
use Rattle.tree_constraints.specs.declared.constraint.Constraint.{Constraint}
use Rattle.tree_constraints.specs.declared.constraint.Key.{Key}
use Rattle.tree_constraints.specs.declared.constraint.Origin.{Origin}
use Rattle.tree_constraints.specs.declared.constraint.Origin.TheVariants as origin

-- by node, and then by the bytes of the property's name
abbrev pub unknown_cmp : Unknown → Unknown → Ordering
unknown_cmp a b = ordering_then (node_cmp a.node b.node) (slice_cmp nat_cmp a.property b.property)

-- the boundary first
abbrev pub origin_cmp : Origin → Origin → Ordering
origin_cmp origin.Boundary origin.Boundary = Equal
origin_cmp origin.Boundary (origin.Along n) = Less
origin_cmp (origin.Along m) origin.Boundary = Greater
origin_cmp (origin.Along m) (origin.Along n) = node_cmp m n

-- by target, and then by origin
abbrev pub key_cmp : Key → Key → Ordering
key_cmp a b = ordering_then (unknown_cmp a.target b.target) (origin_cmp a.origin b.origin)

-- constraints by their keys
abbrev pub constraint_cmp : Constraint → Constraint → Ordering
constraint_cmp a b = key_cmp a.key b.key

abbrev pub same_rule : Option ℕ → Option ℕ → Bool
same_rule None None = true
same_rule (Some i) (Some j) = nat_eq i j
same_rule _ _ = false

abbrev pub same_bindings : List Bound → List Bound → Bool
same_bindings [] [] = true
same_bindings (a ∷ as_) (b ∷ bs) = bytes_eq a.name b.name && eq_by_cmp elem_cmp a.value b.value && same_bindings as_ bs
same_bindings _ _ = false

-- constraints and unknowns are told apart by all that they are
abbrev pub by_parts : Equality Constraint Unknown
by_parts = record {
  key = λ a b. eq_by_cmp key_cmp a.key b.key && same_rule a.rule b.rule && same_bindings a.bindings b.bindings;
  unknown = eq_by_cmp unknown_cmp;
}
