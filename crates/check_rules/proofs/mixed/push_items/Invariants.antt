use Rattle.std.proofs.Common.{◌≡◌, ◌++◌, map, take}
use Rattle.check_rules.specs.inner.Tables.{shown}
use Rattle.check_rules.proofs.mixed.push_items.Given as goal

abbrev pub invariant-loop-item : goal.invariant-loop-item
invariant-loop-item l = map shown l.out.items ≡ map shown l.fn.out.items ++ take l.item-index l.items
