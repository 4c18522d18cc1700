use Rattle.std.proofs.Common.{subst, sym}
use Rattle.flow_eval.proofs.Parts.{disordered_refused, function_refused, lawful_lattices}
use Rattle.flow_eval.proofs.Zips.{zip_step}
use Rattle.function_laws.specs.Laws.{numbered_function}
use Rattle.lattice_tables.specs.Functions.{IsMadeOf}
use Rattle.flow_eval.specs.inner.Built.{IsRefusalOf}
use Rattle.flow_eval.proofs.functions.build_functions.Goals as goal

pub returns-in-Err-clause-refused : goal.returns-in-Err-clause-refused
returns-in-Err-clause-refused c =
    let spec = c.args.spec.now in
    subst (IsRefusalOf spec) (sym c.refused_function.ensures)
    (function_refused spec _ (lawful_lattices spec.spec spec.faultless c.args.lattices.now c.requires.lattices)
    (disordered_refused spec.spec spec.faultless spec.small_functions _ c.loop-number.number c.decl-item.result c.loop-number.functions c.in-Err.refusal c.as_slice-decl-items.ensures
    c.loop-number-test.true c.decl-item.is c.loop-number.invariant c.in-Err.ensures.refused))

pub loop-number-preserved : goal.loop-number-preserved
loop-number-preserved c =
    zip_step (λ f made. IsMadeOf (numbered_function c.args.spec.now.spec f) made) _ c.args.spec.now.spec.functions c.loop-number.number c.decl-item.result c.loop-number.functions _ c.in-Ok.function
    c.as_slice-decl-items.ensures c.loop-number-test.true c.decl-item.is c.in_ok-push-in-Ok.ensures.ok c.loop-number.invariant c.in-Ok.ensures.made
