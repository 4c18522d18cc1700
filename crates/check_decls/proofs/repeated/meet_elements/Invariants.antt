use Rattle.std.proofs.Common.{map, take}
use Rattle.std.specs.List.{flat_map}
use Rattle.check_decls.specs.inner.Repeating.{Meets}
use Rattle.check_decls.proofs.repeated.meet_elements.Given as goal

-- the elements of the lattices before this one were met
abbrev pub invariant-loop-lattice : goal.invariant-loop-lattice
invariant-loop-lattice l = Meets (flat_map (λ d. map (λ n. (n, 0)) d.elements) (take l.lattice-index l.lattices)) l.fn.met l.met l.fn.earliest l.earliest
