use Rattle.std.proofs.Common.{sym, subst}
use Rattle.lattice_tests.proofs.joins.join_of.Goals as goal

pub copy-requires : goal.copy-requires
copy-requires g c = subst (g.L.Lattice.valid c.args.lattice.now) (sym c.in_ok-join.ensures) ((g.met.L.Lattice.laws c.args.lattice.now).joined_valid _ _ c.requires.left c.requires.right)
