-- Terms in a list are no larger than all of them, and no more.
use Rattle.std.proofs.Common.{◌≡◌, ℕ, ◌<◌, ◌≤◌, List, [], ◌∷◌, Option, Some, None, length, get_or, refl, sym, ap, arith}
use Rattle.std.specs.Prelude.{sum_by, slice_get, option_and_then}
use Rattle.std.proofs.lemmas.List.Sums.{get_or-le-sum_by, sum_by-cons}
use Rattle.std.proofs.lemmas.Option.{same_Some, slice_get_within, get_or_from_slice_get}
use Rattle.flow_term.specs.declared.term.Term.{Term}
use Rattle.flow_term.specs.Trees.{At, term_size, children}
use Rattle.flow_term.proofs.Sizes.{term_size_out}

pub count_le : (ts : List Term) → length ts ≤ sum_by term_size ts
count_le [] = omega arith
count_le (t ∷ ts) = omega (arith, count_le ts, term_size_out t, sum_by-cons term_size t ts)

pub item_le : (ts : List Term) (i : ℕ) (t : Term) → i < length ts → t ≡ get_or ts i t → term_size t ≤ sum_by term_size ts
item_le ts i t h is = omega (arith, get_or-le-sum_by term_size ts i t h, ap term_size is)

pub children_lt : (t : Term) → sum_by term_size (children t) < term_size t
children_lt t = omega (arith, term_size_out t)

child_le : (t : Term) (n : ℕ) (child : Term) → slice_get (children t) n ≡ Some child → term_size child ≤ term_size t
child_le t n child e =
    let within : n < length (children t) = slice_get_within (children t) n child e in
    omega (arith, item_le (children t) n child within (sym (get_or_from_slice_get (children t) n child child e)), children_lt t)

-- the term at a position is no larger than the tree
pub at_le : (t : Term) (path : List ℕ) (u : Term) → At t path ≡ Some u → term_size u ≤ term_size t
at_le t [] u h = omega (arith, ap term_size (same_Some t u h))
at_le t (n ∷ path) u h = go (slice_get (children t) n) refl h (λ child k. at_le child path u k)
  where
    go : (o : Option Term) → slice_get (children t) n ≡ o → option_and_then (λ child. At child path) o ≡ Some u
        → ((child : Term) → At child path ≡ Some u → term_size u ≤ term_size child) → term_size u ≤ term_size t
    go (Some child) e k below = omega (arith, below child k, child_le t n child e)
    go None e k below = cc
