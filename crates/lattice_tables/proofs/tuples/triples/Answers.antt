use Rattle.std.specs.List.{range_with_len}
use Rattle.itertools.specs.Product.{rows}
use Rattle.lattice_tables.proofs.Ranges.{copied_below}
use Rattle.lattice_tables.proofs.tuples.triples.Goals as goal

pub returns-clause-items : goal.returns-clause-items
returns-clause-items c =
    let ns = range_with_len 0 c.args.count in
    record {
      yields = c.cartesian_product.ensures.rows (rows ns ns) ns c.pairs.ensures.items.yields
          (λ j d made cloned. (copied_below c.args.count j d made cloned).yields) (λ x d h i. (h.0 i, h.1 i));
    }
