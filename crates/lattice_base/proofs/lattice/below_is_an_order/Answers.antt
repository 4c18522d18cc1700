use Rattle.lattice_base.proofs.Orders.{join_order}
use Rattle.lattice_base.proofs.lattice.below_is_an_order.Goals as goal

pub returns : goal.returns
returns g c = join_order _ _ _ _ (g.met.L.Lattice.laws c.args._lattice.now) (g.met.L.Lattice.order c.args._lattice.now)
