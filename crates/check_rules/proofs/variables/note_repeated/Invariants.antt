use Rattle.std.proofs.Common.{◌≡◌, ℕ, List, bytes_eq, map, take}
use Rattle.std.specs.List.{list_any}
use Rattle.check_base.specs.Earliest.{Gathers, FirstHave}
use Rattle.check_rules.specs.Faults.{IsRepeatedIn}
use Rattle.check_rules.specs.inner.Tables.{binder_by, has_name}
use Rattle.check_rules.proofs.variables.note_repeated.Given as goal

abbrev pub invariant-loop-binding : goal.invariant-loop-binding
invariant-loop-binding l = record {
  gathered : Gathers l.fn.earliest l.earliest (FirstHave (IsRepeatedIn l.names (map binder_by l.bindings)) l.binding-index (map binder_by l.bindings));
  bound : (x : List ℕ) → has_name l.bound x ≡ list_any (λ b. bytes_eq x b.name) (take l.binding-index (map binder_by l.bindings));
}
