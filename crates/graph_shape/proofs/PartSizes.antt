-- A part has fewer positions than the whole.
use Rattle.std.specs.Prelude.{sum_by}
use Rattle.std.proofs.Common.{◌≡◌, ℕ, ◌+◌, ◌<◌, List, sum, length, get_or, ap, ◌∙◌, arith}
use Rattle.std.proofs.lemmas.List.Sums.{sum-map, get_or-le-sum_by}
use Rattle.path_tree.specs.declared.tree.PathTree.{PathTree, PathTree-F, fold-PathTree, fold_out-PathTree}
use Rattle.path_tree.specs.Shapes.{children_of}
use Rattle.graph_shape.specs.declared.kept.Kept.{Kept}

abbrev step : PathTree-F Kept ℕ → ℕ
step s = 1 + sum s.children

abbrev pub part_count : PathTree Kept → ℕ
part_count = fold-PathTree Kept ℕ step

pub part_count_out : (s : PathTree Kept) → part_count s ≡ 1 + sum_by part_count (children_of s)
part_count_out s = fold_out-PathTree Kept ℕ step s ∙ ap (λ n. 1 + n) (sum-map part_count (children_of s))

pub part_smaller : (s c : PathTree Kept) (ss : List (PathTree Kept)) (k : ℕ) → ss ≡ children_of s → k < length ss → c ≡ get_or ss k c → part_count c < part_count s
part_smaller s c ss k e h is = omega (arith, part_count_out s, get_or-le-sum_by part_count ss k c h, ap (sum_by part_count) e, ap part_count is)
