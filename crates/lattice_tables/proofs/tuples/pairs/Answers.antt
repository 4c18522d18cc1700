use Rattle.std.proofs.Common.{refl}
use Rattle.std.specs.List.{range_with_len}
use Rattle.lattice_tables.proofs.Ranges.{below, copied_below}
use Rattle.lattice_tables.proofs.tuples.pairs.Goals as goal

pub returns-clause-items : goal.returns-clause-items
returns-clause-items c = record {
  yields =
      c.cartesian_product.ensures.rows (range_with_len 0 c.args.left) (range_with_len 0 c.args.right) (below c.args.left _ refl refl).yields
      (λ j d made cloned. (copied_below c.args.right j d made cloned).yields) (λ x d h. h);
}
