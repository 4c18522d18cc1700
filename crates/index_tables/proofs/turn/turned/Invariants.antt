use Rattle.std.proofs.Common.{◌≡◌, ◌<◌, ℕ, [], length, filter, get_or}
use Rattle.std.specs.Prelude.{nat_eq}
use Rattle.std.specs.List.{range_with_len}
use Rattle.list_theory.specs.Lists.{has}
use Rattle.index_tables.proofs.turn.turned.Given as goal

abbrev pub invariant-loop-number : goal.invariant-loop-number
invariant-loop-number l = (length l.table.items ≡ l.count) × ((u : ℕ) → u < l.count → get_or l.table.items u [] ≡ filter (λ k. has nat_eq (get_or l.rows k []) u) (range_with_len 0 l.number))
