use Rattle.simple_rules.specs.inner.Least.{IsAtLattice, IsLeast}
use Rattle.simple_rules.proofs.LeastLemmas.{FirstHave}
use Rattle.simple_rules.proofs.first.first_lattice.Given as goal

abbrev pub invariant-loop-lattice : goal.invariant-loop-lattice
invariant-loop-lattice l = IsLeast (FirstHave IsAtLattice l.lattice-index l.lattices) l.first
