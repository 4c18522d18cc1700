use Rattle.std.proofs.Common.{◌≡◌, ◌≤◌, ◌-◌, ◌^◌, min, drop}
use Rattle.std.specs.Option.{option_map}
use Rattle.flow_syntax.specs.DeclFaults.{tuple_count}
use Rattle.check_decls.proofs.Counting.{counted}
use Rattle.check_decls.proofs.size.tuple_count.Given as goal

-- what was counted, times the count of the rest, is the whole count
abbrev pub invariant-loop-name : goal.invariant-loop-name
invariant-loop-name l = record {
  same : counted (2 ^ 128 - 1) l.count (tuple_count l.spec (drop l.name-index l.args)) ≡ option_map (λ n. min n (2 ^ 128 - 1)) (tuple_count l.spec l.args);
  small : l.count ≤ 2 ^ 128 - 1;
}
