use Rattle.std.proofs.Common.{ap, ◌∙◌}
use Rattle.std.specs.List.{position_from}
use Rattle.check_base.specs.Names.{element_named, is_called}
use Rattle.check_base.specs.Tables.{value_in}
use Rattle.check_base.proofs.TableLemmas.{maps-next}
use Rattle.check_base.proofs.table.tables_of_elements.Goals as goal

pub loop-lattice-preserved : goal.loop-lattice-preserved
loop-lattice-preserved c = λ x. maps-next (λ table. value_in table x) (λ lattice. element_named lattice x) c.loop-lattice.tables.items c.push.new.self.items c.in_ok-number_declared.field-0 c.args.lattices.now c.loop-lattice.lattice-index
    c.lattice-item.result c.loop-lattice-test.true c.lattice-item.is c.in_ok-push.ensures.items (c.loop-lattice.invariant x) (c.in_ok-number_declared.ensures x ∙ ap (position_from (is_called x) 0) c.as_slice.ensures)
