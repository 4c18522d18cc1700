-- The tests by which faults are found.
use Rattle.std.specs.Prelude.{ℕ, Bool, ◌==◌, ◌||◌, not}
use Rattle.table_laws.specs.JoinTables.{JoinTable, join_of}

module _ (t : JoinTable) where
  abbrev pub is_below : ℕ → ℕ → Bool
  is_below a b = join_of t a b == b

  abbrev pub changes_itself : ℕ → Bool
  changes_itself a = not (join_of t a a == a)

  abbrev pub depends_on_order : ℕ × ℕ → Bool
  depends_on_order p = not (join_of t p.0 p.1 == join_of t p.1 p.0)

  abbrev pub depends_on_grouping : (ℕ × ℕ) × ℕ → Bool
  depends_on_grouping p = not (join_of t (join_of t p.0.0 p.0.1) p.1 == join_of t p.0.0 (join_of t p.0.1 p.1))

  abbrev pub changes_by_bottom : ℕ → Bool
  changes_by_bottom a = not (join_of t t.bottom a == a) || not (join_of t a t.bottom == a)
