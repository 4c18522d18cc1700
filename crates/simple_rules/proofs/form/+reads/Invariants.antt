use Rattle.std.proofs.Common.{◌≡◌, drop}
use Rattle.std.specs.List.{list_any}
use Rattle.simple_rules.specs.Simple.{holds_read}
use Rattle.simple_rules.proofs.form.+reads.Given as goal

-- a read is held where what is left holds one
abbrev pub invariant-any_holds_read-loop-e : goal.invariant-any_holds_read-loop-e
invariant-any_holds_read-loop-e l = list_any holds_read (drop l.e-index l.es) ≡ list_any holds_read l.es
