use Rattle.std.proofs.Common.{map, take}
use Rattle.check_decls.specs.inner.Repeating.{Meets}
use Rattle.check_decls.proofs.repeated.meet_declared.Given as goal

-- the declarations before this one were met
abbrev pub invariant-loop-declaration : goal.invariant-loop-declaration
invariant-loop-declaration g l = Meets (map (λ d. (g.D.Declared.declared d, 0)) (take l.declaration-index l.declarations)) l.fn.met l.met l.fn.earliest l.earliest
