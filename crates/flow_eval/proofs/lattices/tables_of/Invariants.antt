use Rattle.std.proofs.Common.{take}
use Rattle.lattice_any.specs.Tables.{AreDeclared}
use Rattle.flow_eval.proofs.lattices.tables_of.Given as goal

abbrev pub invariant-loop-number : goal.invariant-loop-number
invariant-loop-number l = AreDeclared (take l.number l.declared) l.tables
