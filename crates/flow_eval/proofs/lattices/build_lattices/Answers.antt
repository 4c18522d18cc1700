use Rattle.std.proofs.Common.{arith, subst, sym}
use Rattle.table_laws.proofs.Declared.{well_declared}
use Rattle.lattice_tables.specs.Tables.{IsBuiltFrom}
use Rattle.flow_eval.proofs.Parts.{unlawful_refused}
use Rattle.flow_eval.proofs.Zips.{among_at, zip_step}
use Rattle.flow_eval.specs.inner.Built.{IsLatticeRefusal}
use Rattle.flow_eval.proofs.lattices.build_lattices.Goals as goal

pub build_declared-requires-clause-few : goal.build_declared-requires-clause-few
build_declared-requires-clause-few c =
    let w = (well_declared c.args.spec.now.spec c.args.spec.now.faultless c.decl-item.result (among_at _ _ _ c.decl-item.result c.as_slice-decl-items.ensures c.loop-number-test.true c.decl-item.is)).few in
    omega (arith, w)

pub build_declared-requires-clause-complete : goal.build_declared-requires-clause-complete
build_declared-requires-clause-complete c =
    (well_declared c.args.spec.now.spec c.args.spec.now.faultless c.decl-item.result (among_at _ _ _ c.decl-item.result c.as_slice-decl-items.ensures c.loop-number-test.true c.decl-item.is)).complete

pub returns-in-Err-clause-refused : goal.returns-in-Err-clause-refused
returns-in-Err-clause-refused c = subst (IsLatticeRefusal c.args.spec.now.spec) (sym c.refused_lattice.ensures)
    (unlawful_refused c.args.spec.now.spec c.args.spec.now.faultless _ c.loop-number.number c.decl-item.result c.loop-number.lattices c.in-Err.refusal c.as_slice-decl-items.ensures c.loop-number-test.true c.decl-item.is
    c.loop-number.invariant c.in-Err.ensures.err)

pub loop-number-preserved : goal.loop-number-preserved
loop-number-preserved c =
    zip_step IsBuiltFrom _ c.args.spec.now.spec.lattices c.loop-number.number c.decl-item.result c.loop-number.lattices _ c.in-Ok.lattice c.as_slice-decl-items.ensures c.loop-number-test.true c.decl-item.is
    c.in_ok-push-in-Ok.ensures.ok c.loop-number.invariant c.in-Ok.ensures.ok
