use Rattle.std.proofs.Common.{◌≡◌, ℕ, List, bytes_eq, map, take}
use Rattle.std.specs.List.{list_any}
use Rattle.check_rules.specs.inner.Tables.{binder_by, has_name}
use Rattle.check_rules.proofs.variables.names_of_bindings.Given as goal

abbrev pub invariant-loop-binding : goal.invariant-loop-binding
invariant-loop-binding l = (x : List ℕ) → has_name l.names x ≡ list_any (λ b. bytes_eq x b.name) (take l.binding-index (map binder_by l.bindings))
