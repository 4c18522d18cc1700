use Rattle.std.proofs.Common.{map, take}
use Rattle.std.specs.List.{flat_map}
use Rattle.check_decls.specs.inner.Repeating.{Meets}
use Rattle.check_decls.proofs.repeated.meet_items.Given as goal

-- the items of the enums before this one were met
abbrev pub invariant-loop-declaration : goal.invariant-loop-declaration
invariant-loop-declaration l = Meets (flat_map (λ d. map (λ n. (n, 0)) d.items) (take l.declaration-index l.enums)) l.fn.met l.met l.fn.earliest l.earliest
