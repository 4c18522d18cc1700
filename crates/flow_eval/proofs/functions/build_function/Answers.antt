use Rattle.std.proofs.Common.{subst, sym, ◌∙◌}
use Rattle.std.specs.Prelude.{IfErr}
use Rattle.flow_term.proofs.Outcomes.{if_ok}
use Rattle.table_laws.specs.FunctionTables.{FunctionTable, IsTotal}
use Rattle.lattice_tables.specs.Functions.{IsFunctionRefusal, IsMadeOf}
use Rattle.flow_eval.proofs.Arguments.{binary_is, few_elements, first_known, got_none, got_some, result_known, second_known, total, unary_is}
use Rattle.flow_eval.proofs.functions.build_function.Goals as goal

pub results_of-requires-clause-known : goal.results_of-requires-clause-known
results_of-requires-clause-known c = result_known c.args.spec.now c.requires.faultless c.requires.small c.args.decl.now c.requires.among c.as_slice-declared.result.now c.as_slice-declared.ensures

pub results_of-requires-clause-few : goal.results_of-requires-clause-few
results_of-requires-clause-few c = few_elements c.args.spec.now c.requires.faultless c.requires.small c.args.decl.now c.requires.among c.as_slice-declared.result.now c.as_slice-declared.ensures

pub lattice_named-to-requires-clause-known : goal.lattice_named-to-requires-clause-known
lattice_named-to-requires-clause-known c = result_known c.args.spec.now c.requires.faultless c.requires.small c.args.decl.now c.requires.among c.as_slice-declared.result.now c.as_slice-declared.ensures

pub lattice_named-left-requires-clause-known : goal.lattice_named-left-requires-clause-known
lattice_named-left-requires-clause-known c = first_known c.args.spec.now c.requires.faultless c.requires.small c.args.decl.now c.requires.among c.as_slice-declared.result.now c.as_slice-declared.ensures c.as_slice-args.result.now c.index-args-0.result c.as_slice-args.ensures c.index-args-0.is

pub lattice_named-right-requires-clause-known : goal.lattice_named-right-requires-clause-known
lattice_named-right-requires-clause-known c = second_known c.args.spec.now c.requires.faultless c.requires.small c.args.decl.now c.requires.among c.as_slice-declared.result.now c.as_slice-declared.ensures c.as_slice-args.result.now c.in-Some.second.now c.as_slice-args.ensures (got_some c.get.result _ 1 c.in-Some.second c.get.ensures.lookup.0 c.get.ensures.lookup.1 c.in-Some.is)

pub build_unary-requires : goal.build_unary-requires
build_unary-requires c =
    let same = unary_is c.args.spec.now c.requires.faultless c.requires.small c.args.decl.now c.requires.among c.as_slice-declared.result.now c.as_slice-declared.ensures c.as_slice-args.result.now c.as_slice-args.ensures c.index-args-0.result c.index-args-0.is c.lattice_named-left.result.now c.lattice_named-to.result.now c.as_slice.result.now c.lattice_named-left.ensures c.lattice_named-to.ensures (c.as_slice.ensures ∙ c.in_ok-results.ensures) (got_none c.get.result _ 1 c.get.ensures.lookup.0 c.get.ensures.lookup.1 c.in-None.is) in
    subst IsTotal (sym same) (total c.args.spec.now c.requires.faultless c.requires.small c.args.decl.now c.requires.among c.as_slice-declared.result.now c.as_slice-declared.ensures)

pub returns-in-None-clause-made : goal.returns-in-None-clause-made
returns-in-None-clause-made c =
    let same = unary_is c.args.spec.now c.requires.faultless c.requires.small c.args.decl.now c.requires.among c.as_slice-declared.result.now c.as_slice-declared.ensures c.as_slice-args.result.now c.as_slice-args.ensures c.index-args-0.result c.index-args-0.is c.lattice_named-left.result.now c.lattice_named-to.result.now c.as_slice.result.now c.lattice_named-left.ensures c.lattice_named-to.ensures (c.as_slice.ensures ∙ c.in_ok-results.ensures) (got_none c.get.result _ 1 c.get.ensures.lookup.0 c.get.ensures.lookup.1 c.in-None.is) in
    if_ok c.build_unary.result c.build_unary.ensures.ok (λ made h. subst (λ (t : FunctionTable). IsMadeOf t made) same h)

pub returns-in-None-clause-refused : goal.returns-in-None-clause-refused
returns-in-None-clause-refused c =
    let same = unary_is c.args.spec.now c.requires.faultless c.requires.small c.args.decl.now c.requires.among c.as_slice-declared.result.now c.as_slice-declared.ensures c.as_slice-args.result.now c.as_slice-args.ensures c.index-args-0.result c.index-args-0.is c.lattice_named-left.result.now c.lattice_named-to.result.now c.as_slice.result.now c.lattice_named-left.ensures c.lattice_named-to.ensures (c.as_slice.ensures ∙ c.in_ok-results.ensures) (got_none c.get.result _ 1 c.get.ensures.lookup.0 c.get.ensures.lookup.1 c.in-None.is) in
    subst (λ (t : FunctionTable). IfErr c.build_unary.result (IsFunctionRefusal t)) same c.build_unary.ensures.err

pub build_binary-requires : goal.build_binary-requires
build_binary-requires c =
    let same = binary_is c.args.spec.now c.requires.faultless c.requires.small c.args.decl.now c.requires.among c.as_slice-declared.result.now c.as_slice-declared.ensures c.as_slice-args.result.now c.as_slice-args.ensures c.index-args-0.result c.index-args-0.is c.lattice_named-left.result.now c.lattice_named-to.result.now c.as_slice-in-Some.result.now c.lattice_named-left.ensures c.lattice_named-to.ensures (c.as_slice-in-Some.ensures ∙ c.in_ok-results.ensures) c.in-Some.second.now c.lattice_named-right.result.now (got_some c.get.result _ 1 c.in-Some.second c.get.ensures.lookup.0 c.get.ensures.lookup.1 c.in-Some.is) c.lattice_named-right.ensures in
    subst IsTotal (sym same) (total c.args.spec.now c.requires.faultless c.requires.small c.args.decl.now c.requires.among c.as_slice-declared.result.now c.as_slice-declared.ensures)

pub returns-clause-made : goal.returns-clause-made
returns-clause-made c =
    let same = binary_is c.args.spec.now c.requires.faultless c.requires.small c.args.decl.now c.requires.among c.as_slice-declared.result.now c.as_slice-declared.ensures c.as_slice-args.result.now c.as_slice-args.ensures c.index-args-0.result c.index-args-0.is c.lattice_named-left.result.now c.lattice_named-to.result.now c.as_slice-in-Some.result.now c.lattice_named-left.ensures c.lattice_named-to.ensures (c.as_slice-in-Some.ensures ∙ c.in_ok-results.ensures) c.in-Some.second.now c.lattice_named-right.result.now (got_some c.get.result _ 1 c.in-Some.second c.get.ensures.lookup.0 c.get.ensures.lookup.1 c.in-Some.is) c.lattice_named-right.ensures in
    if_ok c.build_binary.result c.build_binary.ensures.ok (λ made h. subst (λ (t : FunctionTable). IsMadeOf t made) same h)

pub returns-clause-refused : goal.returns-clause-refused
returns-clause-refused c =
    let same = binary_is c.args.spec.now c.requires.faultless c.requires.small c.args.decl.now c.requires.among c.as_slice-declared.result.now c.as_slice-declared.ensures c.as_slice-args.result.now c.as_slice-args.ensures c.index-args-0.result c.index-args-0.is c.lattice_named-left.result.now c.lattice_named-to.result.now c.as_slice-in-Some.result.now c.lattice_named-left.ensures c.lattice_named-to.ensures (c.as_slice-in-Some.ensures ∙ c.in_ok-results.ensures) c.in-Some.second.now c.lattice_named-right.result.now (got_some c.get.result _ 1 c.in-Some.second c.get.ensures.lookup.0 c.get.ensures.lookup.1 c.in-Some.is) c.lattice_named-right.ensures in
    subst (λ (t : FunctionTable). IfErr c.build_binary.result (IsFunctionRefusal t)) same c.build_binary.ensures.err
