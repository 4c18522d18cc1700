-- Trees: their positions, and what a replacement leaves.
use Rattle.std.specs.Prelude.{ℕ, ◌+◌, max, List, [], ◌∷◌, map, sum, Option, Some, IsSome, slice_get, slice_set, option_map, option_and_then, unwrap_or}
use Rattle.flow_term.specs.declared.term.Term.{Term, out-Term, roll-Term, fold-Term}
use Rattle.flow_term.specs.declared.term.Kind.{out-Kind, roll-Kind}
use Rattle.flow_term.specs.declared.term.Kind.TheOpen.{Kind-F}

-- the arguments, parts or items of one layer
abbrev pub parts : {K T : Type 0} → Kind-F K T → List T
parts (Kind-F.Apply name args) = args
parts (Kind-F.Tuple items) = items
parts (Kind-F.Items items) = items
parts (Kind-F.Int n) = []
parts (Kind-F.Str text) = []

-- one layer with other parts
abbrev pub with_parts : {K T : Type 0} → Kind-F K T → List T → Kind-F K T
with_parts (Kind-F.Apply name args) new = Kind-F.Apply name new
with_parts (Kind-F.Tuple items) new = Kind-F.Tuple new
with_parts (Kind-F.Items items) new = Kind-F.Items new
with_parts (Kind-F.Int n) new = Kind-F.Int n
with_parts (Kind-F.Str text) new = Kind-F.Str text

-- the children of a term. Annotations are none
abbrev pub children : Term → List Term
children t = parts (out-Kind (out-Term t).kind)

-- the term with other children
abbrev pub with_children : Term → List Term → Term
with_children t new = roll-Term (record (out-Term t) { kind = roll-Kind (with_parts (out-Kind (out-Term t).kind) new) })

-- the term that the child numbers lead to, if there is one
abbrev pub At : Term → List ℕ → Option Term
At t [] = Some t
At t (n ∷ path) = option_and_then (λ child. At child path) (slice_get (children t) n)

-- the tree in which the whole term at the path is the new one, and all else is as before
abbrev pub Put : Term → List ℕ → Term → Term
Put t [] new = new
Put t (n ∷ path) new = unwrap_or (option_map (λ child. with_children t (slice_set (children t) n (Put child path new))) (slice_get (children t) n)) t

-- the paths at which there is a term
abbrev pub IsPosition : Term → List ℕ → Type 0
IsPosition t path = IsSome (At t path)

-- the greatest of a list, or 0
abbrev pub greatest : List ℕ → ℕ
greatest [] = 0
greatest (n ∷ ns) = max n (greatest ns)

-- the number of terms in a term, those in annotations included
abbrev pub term_size : Term → ℕ
term_size = fold-Term ℕ ℕ (λ kind. sum (parts kind)) (λ t. 1 + t.kind + sum t.annos)

-- the number of positions of a term
abbrev pub position_count : Term → ℕ
position_count = fold-Term ℕ ℕ (λ kind. sum (parts kind)) (λ t. 1 + t.kind)

-- 1 for a leaf; annotations count as children
abbrev pub term_depth : Term → ℕ
term_depth = fold-Term ℕ ℕ (λ kind. greatest (parts kind)) (λ t. 1 + max t.kind (greatest t.annos))

-- the depth of the deepest, or 0
abbrev pub deepest : List Term → ℕ
deepest ts = greatest (map term_depth ts)
