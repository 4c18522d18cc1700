use Rattle.check_base.proofs.GathersLaws.{Gathers-all, Gathers-read, Gathers-start}
use Rattle.check_decls.specs.inner.Sections.{LatticeFaults}
use Rattle.check_decls.proofs.section.note_lattices.Goals as goal

pub loop-number-init : goal.loop-number-init
loop-number-init c = Gathers-start {P = LatticeFaults c.args.names.now} c.args.lattices.now c.args.earliest.now

pub loop-number-preserved : goal.loop-number-preserved
loop-number-preserved c =
    Gathers-read {P = LatticeFaults c.args.names.now} c.args.lattices.now c.loop-number.number c.index-lattices-number.result c.loop-number-test.true c.index-lattices-number.is c.loop-number.invariant c.note_lattice.ensures

pub returns : goal.returns
returns c = Gathers-all {P = LatticeFaults c.args.names.now} c.args.lattices.now c.loop-number.number c.loop-number-test.false c.loop-number.invariant
