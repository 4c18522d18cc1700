use Rattle.std.specs.Prelude.{sum_by}
-- The sizes of terms, by one level.
use Rattle.std.proofs.Common.{◌≡◌, ℕ, zero, suc, ◌+◌, ◌<◌, List, [], ◌∷◌, map, max, sum, length, get_or, take, refl, ap, ◌∙◌, arith, add-one}
use Rattle.std.proofs.lemmas.List.Sums.{sum-map}
use Rattle.flow_term.specs.declared.term.Term.{Term, Term-F, out-Term, fold_out-Term}
use Rattle.flow_term.specs.declared.term.Kind.{Kind, Kind-F, out-Kind, fold-Kind, fold_out-Kind, map-Kind}
use Rattle.flow_term.specs.Trees.{term_size, position_count, term_depth, greatest, deepest, parts, children}

abbrev kind_step : Kind-F ℕ ℕ → ℕ
kind_step kind = sum (parts kind)

abbrev term_step : Term-F ℕ ℕ → ℕ
term_step t = 1 + t.kind + sum t.annos

abbrev kind_size : Kind → ℕ
kind_size = fold-Kind ℕ ℕ kind_step term_step

-- where a number stands in place of each part, the sum is that of the parts
parts_summed : (f : Kind → ℕ) (g : Term → ℕ) (x : Kind-F Kind Term) → sum (parts (map-Kind Kind Term ℕ ℕ f g x)) ≡ sum_by g (parts x)
parts_summed f g (Kind-F.Apply name args) = sum-map g args
parts_summed f g (Kind-F.Tuple items) = sum-map g items
parts_summed f g (Kind-F.Items items) = sum-map g items
parts_summed f g (Kind-F.Int n) = refl
parts_summed f g (Kind-F.Str text) = refl

-- a term's size is by its children's and its annotations'
pub term_size_out : (t : Term) → term_size t ≡ 1 + sum_by term_size (children t) + sum_by term_size (out-Term t).annos
term_size_out t =
    fold_out-Term ℕ ℕ kind_step term_step t
    ∙ ap (λ k. 1 + k + sum (map term_size (out-Term t).annos)) (fold_out-Kind ℕ ℕ kind_step term_step (out-Term t).kind ∙ parts_summed kind_size term_size (out-Kind (out-Term t).kind))
    ∙ ap (λ n. 1 + sum_by term_size (children t) + n) (sum-map term_size (out-Term t).annos)

abbrev position_step : Term-F ℕ ℕ → ℕ
position_step t = 1 + t.kind

abbrev kind_positions : Kind → ℕ
kind_positions = fold-Kind ℕ ℕ kind_step position_step

-- a term's positions are itself and those of its children
pub position_count_out : (t : Term) → position_count t ≡ 1 + sum_by position_count (children t)
position_count_out t =
    fold_out-Term ℕ ℕ kind_step position_step t
    ∙ ap (λ k. 1 + k) (fold_out-Kind ℕ ℕ kind_step position_step (out-Term t).kind ∙ parts_summed kind_positions position_count (out-Kind (out-Term t).kind))

abbrev greatest_step : Kind-F ℕ ℕ → ℕ
greatest_step kind = greatest (parts kind)

abbrev depth_step : Term-F ℕ ℕ → ℕ
depth_step t = 1 + max t.kind (greatest t.annos)

abbrev kind_depth : Kind → ℕ
kind_depth = fold-Kind ℕ ℕ greatest_step depth_step

parts_deep : (x : Kind-F Kind Term) → greatest (parts (map-Kind Kind Term ℕ ℕ kind_depth term_depth x)) ≡ deepest (parts x)
parts_deep (Kind-F.Apply name args) = refl
parts_deep (Kind-F.Tuple items) = refl
parts_deep (Kind-F.Items items) = refl
parts_deep (Kind-F.Int n) = refl
parts_deep (Kind-F.Str text) = refl

-- a term's depth is by its children's and its annotations'
pub term_depth_out : (t : Term) → term_depth t ≡ 1 + max (deepest (children t)) (deepest (out-Term t).annos)
term_depth_out t =
    fold_out-Term ℕ ℕ greatest_step depth_step t
    ∙ ap (λ k. 1 + max k (deepest (out-Term t).annos)) (fold_out-Kind ℕ ℕ greatest_step depth_step (out-Term t).kind ∙ parts_deep (out-Kind (out-Term t).kind))

one_more : (ts : List Term) (i : ℕ) (d : Term) → i < length ts → deepest (take (suc i) ts) ≡ max (term_depth (get_or ts i d)) (deepest (take i ts))
one_more [] i d h = absurd (omega arith)
one_more (t ∷ ts) zero d h = refl
one_more (t ∷ ts) (suc i) d h = ap (λ n. max (term_depth t) n) (one_more ts i d (omega arith)) ∙ omega arith

-- the deepest of one term more
pub deepest_one_more : (ts : List Term) (i : ℕ) (d : Term) → i < length ts → deepest (take (i + 1) ts) ≡ max (term_depth (get_or ts i d)) (deepest (take i ts))
deepest_one_more ts i d h = rw add-one (one_more ts i d h)
