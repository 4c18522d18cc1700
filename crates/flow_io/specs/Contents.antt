-- What a folder holds.
use Rattle.std.specs.Prelude.{ℕ, List}
use Rattle.std.specs.Cmp.Lexicographic.{slice_cmp}
use Rattle.std.specs.FinMap.{FinMap}
use Rattle.std.specs.Ordering.{nat_cmp}

-- names, as their UTF-8 bytes, each with the bytes of its content
abbrev pub Contents : Type 0
Contents = FinMap (slice_cmp nat_cmp) (List ℕ)
