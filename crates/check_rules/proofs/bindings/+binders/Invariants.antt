use Rattle.std.proofs.Common.{◌≡◌, ◌++◌, drop, map, take}
use Rattle.std.specs.List.{flat_map}
use Rattle.flow_syntax.specs.Binders.{binders_in}
use Rattle.check_rules.specs.inner.Tables.{known_binder, known_by, names_in_turn}
use Rattle.check_rules.proofs.bindings.+binders.Given as goal

abbrev pub invariant-push_binders_of_map-loop-at : goal.invariant-push_binders_of_map-loop-at
invariant-push_binders_of_map-loop-at l = map known_by l.out.items ++ names_in_turn (drop l.at l.keys) (drop l.at l.values) ≡ map known_by l.fn.out.items ++ names_in_turn l.keys l.values

abbrev pub invariant-push_binders_of_each-loop-part : goal.invariant-push_binders_of_each-loop-part
invariant-push_binders_of_each-loop-part l = map known_by l.out.items ≡ map known_by l.fn.out.items ++ map known_binder (flat_map binders_in (take l.part-index l.parts))
