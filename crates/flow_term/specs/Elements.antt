-- The order of elements.
use Rattle.std.specs.Prelude.{ℕ}
use Rattle.std.specs.Ordering.{nat_cmp, int_cmp, ordering_then}
use Rattle.std.specs.Cmp.Lexicographic.{slice_cmp}
use Rattle.std.specs.declared.cmp.Ordering.{Ordering}
use Rattle.flow_term.specs.declared.elem.Elem.{Elem, Elem-F, out-Elem, fold-Elem}
use Rattle.flow_term.specs.Paths.{path_cmp}

-- names come before strings, and these before positions, items, integers and pairs, in this order
abbrev pub rank : {A : Type 0} → Elem-F A → ℕ
rank (Elem-F.Name text) = 0
rank (Elem-F.Str text) = 1
rank (Elem-F.Pos path) = 2
rank (Elem-F.Item text) = 3
rank (Elem-F.Int number) = 4
rank (Elem-F.Pair left right) = 5

-- of one kind: texts by their bytes, positions as paths, integers by value, pairs by the first part and then the second
abbrev pub layer_cmp : {A B : Type 0} → (A → B → Ordering) → Elem-F A → Elem-F B → Ordering
layer_cmp part_cmp (Elem-F.Name a) (Elem-F.Name b) = slice_cmp nat_cmp a b
layer_cmp part_cmp (Elem-F.Str a) (Elem-F.Str b) = slice_cmp nat_cmp a b
layer_cmp part_cmp (Elem-F.Pos a) (Elem-F.Pos b) = path_cmp a b
layer_cmp part_cmp (Elem-F.Item a) (Elem-F.Item b) = slice_cmp nat_cmp a b
layer_cmp part_cmp (Elem-F.Int a) (Elem-F.Int b) = int_cmp a b
layer_cmp part_cmp (Elem-F.Pair a b) (Elem-F.Pair c d) = ordering_then (part_cmp a c) (part_cmp b d)
layer_cmp part_cmp x y = nat_cmp (rank x) (rank y)

-- elements are compared by kind, and within a kind by what they hold
abbrev pub elem_cmp : Elem → Elem → Ordering
elem_cmp = fold-Elem (Elem → Ordering) (λ one other. layer_cmp (λ part_cmp part. part_cmp part) one (out-Elem other))
