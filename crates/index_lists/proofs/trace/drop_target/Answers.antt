use Rattle.std.proofs.Common.{◌≡◌, ◌∙◌, ap, nat_eq, sym, true}
use Rattle.list_theory.specs.Lists.{has}
use Rattle.linked_lists.specs.Chains.{list_in}
use Rattle.index_lists.specs.Records.{first, has_key, pairs}
use Rattle.index_lists.proofs.GroupLemmas.{first_has, has_passed, list_shrinks, no_others, others_stay}
use Rattle.index_lists.proofs.TraceLemmas.{pairs_elsewhere}
use Rattle.index_lists.proofs.trace.drop_target.Goals as goal

pub remove_step-requires-clause-there : goal.remove_step-requires-clause-there
remove_step-requires-clause-there c =
    let there : has nat_eq (list_in c.loop-number.by_target c.args.target) c.in-Some.number ≡ true = first_has _ _ (sym c.first.ensures ∙ c.in-Some.is) in
    has_passed (has_key first c.args.target) c.loop-number.steps.entries c.in-Some.number (ap (λ xs. has nat_eq xs c.in-Some.number) (sym (c.loop-number.invariant.trace.grouped c.args.target)) ∙ there)

pub loop-number-smaller : goal.loop-number-smaller
loop-number-smaller c =
    let there : has nat_eq (list_in c.loop-number.by_target c.args.target) c.in-Some.number ≡ true = first_has _ _ (sym c.first.ensures ∙ c.in-Some.is) in
    list_shrinks first c.loop-number.steps.entries c.remove_step.new.steps.entries c.loop-number.by_target c.remove_step.new.by_target c.in-Some.number c.args.target c.loop-number.invariant.trace.grouped c.remove_step.ensures.trace.grouped c.remove_step.ensures.entries there

pub loop-number-preserved : goal.loop-number-preserved
loop-number-preserved c =
    let there : has nat_eq (list_in c.loop-number.by_target c.args.target) c.in-Some.number ≡ true = first_has _ _ (sym c.first.ensures ∙ c.in-Some.is) in
    record {
      trace = c.remove_step.ensures.trace;
      rest = others_stay first c.loop-number.steps.entries c.remove_step.new.steps.entries c.loop-number.by_target c.in-Some.number c.args.target c.loop-number.invariant.trace.grouped c.loop-number.invariant.trace.once c.remove_step.ensures.entries there ∙ c.loop-number.invariant.rest;
    }

pub returns-clause-steps : goal.returns-clause-steps
returns-clause-steps c = ap pairs (sym (no_others first c.loop-number.steps.entries c.loop-number.by_target c.args.target c.loop-number.invariant.trace.grouped (λ x h. c.in_default.not-Some x (c.first.ensures ∙ h))) ∙ c.loop-number.invariant.rest) ∙ pairs_elsewhere c.args.target c.args.steps.now.entries
