-- What the digits of a number give, one by one.
use Rattle.std.specs.Prelude.{ℕ, zero, suc, ◌+◌, ◌-◌, ◌*◌, ◌^◌, Bool, true, false, nat_lt, ℤ, pos, negsuc, Option, Some, None, if◌then◌else◌}
use Rattle.aterm_text.specs.declared.number.Number.{Number}

-- the value with one more digit, or 2^64 - 1 where the value before it is 2^60 or more
abbrev pub more_digits : ℕ → ℕ → ℕ
more_digits m c = if nat_lt m (2 ^ 60) then m * 10 + (c - 48) else 2 ^ 64 - 1

abbrev pub with_digit : Number → ℕ → Number
with_digit n c = record n { magnitude = more_digits n.magnitude c }

-- the integer of a sign and a magnitude, if it is an i64
abbrev pub integer_within : Bool → ℕ → Option ℤ
integer_within false m = if nat_lt m (2 ^ 63) then Some (pos m) else None
integer_within true zero = Some (pos 0)
integer_within true (suc m) = if nat_lt m (2 ^ 63) then Some (negsuc m) else None

abbrev pub integer_of : Number → Option ℤ
integer_of n = integer_within n.negative n.magnitude
