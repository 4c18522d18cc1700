use Rattle.std.proofs.Common.{ap, map}
use Rattle.std.specs.List.{flat_map}
use Rattle.check_decls.proofs.Meeting.{Meets-more, Meets-none, Meets-those, Meets-whole}
use Rattle.check_decls.proofs.repeated.meet_elements.Goals as goal

pub loop-lattice-init : goal.loop-lattice-init
loop-lattice-init c = Meets-none c.args.met.now c.args.earliest.now

pub loop-lattice-preserved : goal.loop-lattice-preserved
loop-lattice-preserved c =
    Meets-more (λ d. map (λ n. (n, 0)) d.elements) c.args.lattices.now c.loop-lattice.lattice-index c.lattice-item.result c.loop-lattice-test.true c.lattice-item.is c.loop-lattice.invariant
    (Meets-those _ _ (ap (map (λ n. (n, 0))) c.as_slice.ensures) c.in_ok-meet_declared.ensures)

pub returns : goal.returns
returns c = Meets-whole (flat_map (λ d. map (λ n. (n, 0)) d.elements)) c.args.lattices.now c.loop-lattice.lattice-index c.loop-lattice-test.false c.loop-lattice.invariant
