use Rattle.itertools.specs.Product.{rows}
use Rattle.lattice_tables.specs.inner.Tuples.{numbers_below, pairs_below}
use Rattle.lattice_tables.proofs.Ranges.{copied_below}
use Rattle.lattice_tables.proofs.tuples.quadruples.Goals as goal

pub returns-clause-items : goal.returns-clause-items
returns-clause-items c =
    let left = numbers_below c.args.left in
    let right = numbers_below c.args.right in
    let pairs = pairs_below c.args.left c.args.right in
    let triples = c.cartesian_product.ensures.rows pairs left c.pairs.ensures.items.yields (λ j d made cloned. (copied_below c.args.left j d made cloned).yields) (λ x d h i. (h.0 i, h.1 i)) in
    record {
      yields = c.cartesian_product-2.ensures.rows (rows pairs left) right triples
          (λ j d made cloned. (copied_below c.args.right j d made cloned).yields) (λ x d h i. ((h.0.0 i, h.0.1 i), h.1 i));
    }
