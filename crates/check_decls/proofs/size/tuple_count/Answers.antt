use Rattle.std.proofs.Common.{◌+◌, ◌*◌, ◌-◌, ◌^◌, drop, min, ap, sym, ◌∙◌, arith}
use Rattle.flow_syntax.specs.DeclFaults.{tuple_count}
use Rattle.check_decls.proofs.Counting.{counted, counted_all, counted_more, counted_none, counted_one}
use Rattle.check_decls.proofs.size.tuple_count.Goals as goal

pub loop-name-init : goal.loop-name-init
loop-name-init c = record { same = counted_one (2 ^ 128 - 1) (tuple_count c.args.spec.now c.args.args.now); small = omega arith }

pub loop-name-preserved : goal.loop-name-preserved
loop-name-preserved c = record {
  same =
      ap (λ n. counted (2 ^ 128 - 1) n (tuple_count c.args.spec.now (drop (c.loop-name.name-index + 1) c.args.args.now))) (c.saturating_mul-count.ensures ∙ ap (λ m. min (c.loop-name.count * m) (2 ^ 128 - 1)) c.len.ensures)
      ∙ sym (counted_more (2 ^ 128 - 1) c.args.spec.now c.args.args.now c.loop-name.name-index c.name-item.result c.in_ok-lattice.lattice.now c.loop-name.count c.loop-name-test.true c.name-item.is c.in_ok-lattice.ensures)
      ∙ c.loop-name.invariant.same;
  small = omega (arith, c.saturating_mul-count.type_inv);
}

pub returns-in_err-lattice : goal.returns-in_err-lattice
returns-in_err-lattice c =
    c.from_residual.ensures ∙ counted_none (2 ^ 128 - 1) c.args.spec.now c.args.args.now c.loop-name.name-index c.name-item.result c.loop-name.count c.loop-name-test.true c.name-item.is c.in_err-lattice.ensures
    ∙ c.loop-name.invariant.same

pub returns : goal.returns
returns c =
    counted_all (2 ^ 128 - 1) c.args.spec.now c.args.args.now c.loop-name.name-index c.loop-name.count c.loop-name-test.false c.loop-name.invariant.small ∙ c.loop-name.invariant.same
