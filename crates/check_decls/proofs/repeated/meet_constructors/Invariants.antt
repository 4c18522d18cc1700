use Rattle.std.proofs.Common.{length, map, take}
use Rattle.check_decls.specs.inner.Repeating.{Meets}
use Rattle.check_decls.proofs.repeated.meet_constructors.Given as goal

-- the constructors before this one were met
abbrev pub invariant-loop-constructor : goal.invariant-loop-constructor
invariant-loop-constructor l = Meets (map (λ c. (c.name, length c.args)) (take l.constructor-index l.constructors)) l.fn.met l.met l.fn.earliest l.earliest
