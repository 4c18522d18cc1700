use Rattle.std.proofs.Common.{◌≡◌, ◌<◌, ℕ, [], length, filter, get_or}
use Rattle.std.specs.Prelude.{nat_eq}
use Rattle.std.specs.List.{range_with_len}
use Rattle.index_tables.proofs.group.grouped.Given as goal

abbrev pub invariant-loop-place : goal.invariant-loop-place
invariant-loop-place l = (length l.table.items ≡ l.count) × ((u : ℕ) → u < l.count → get_or l.table.items u [] ≡ filter (λ k. nat_eq (get_or l.numbers k 0) u) (range_with_len 0 l.place))
