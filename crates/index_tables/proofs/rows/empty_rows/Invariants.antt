use Rattle.std.proofs.Common.{◌≡◌, ℕ, [], length, get_or}
use Rattle.index_tables.proofs.rows.empty_rows.Given as goal

abbrev pub invariant-loop-row : goal.invariant-loop-row
invariant-loop-row l = (length l.table.items ≡ l._row) × ((u : ℕ) → get_or l.table.items u [] ≡ [])
