use Rattle.std.proofs.Common.{◌≡◌, ℕ, [], length, get_or, take}
use Rattle.std.specs.Prelude.{nat_eq}
use Rattle.list_theory.specs.Lists.{has}
use Rattle.index_tables.specs.inner.Gained.{gained}
use Rattle.index_tables.proofs.turn.add_to_each.Given as goal

abbrev pub invariant-loop-at : goal.invariant-loop-at
invariant-loop-at l = (length l.table.items ≡ length l.initial.table.items) × ((u : ℕ) → get_or l.table.items u [] ≡ gained (get_or l.initial.table.items u []) (has nat_eq (take l.at l.places) u) l.number)
