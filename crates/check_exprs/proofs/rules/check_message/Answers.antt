use Rattle.std.proofs.lemmas.Result.{on_ok_weaker}
use Rattle.check_exprs.proofs.Occurrences.{condition_gathered, condition_listed, no_condition, no_condition_listed, placed}
use Rattle.check_exprs.proofs.Forms.{none_left}
use Rattle.check_exprs.proofs.rules.check_message.Goals as goal

pub returns-in_default-clause-gathers : goal.returns-in_default-clause-gathers
returns-in_default-clause-gathers c = no_condition c.args.cx.now.spec.now c.args.message.now _ (none_left _ c.in_default.not-Some)

pub returns-in_default-clause-lists : goal.returns-in_default-clause-lists
returns-in_default-clause-lists c = no_condition_listed c.args.cx.now.spec.now c.args.message.now _ (none_left _ c.in_default.not-Some)

pub returns-clause-gathers : goal.returns-clause-gathers
returns-clause-gathers c =
    on_ok_weaker c.check_in.result (λ h. condition_gathered c.args.cx.now.spec.now c.args.message.now _ c.in-Some.is (placed _ _ _ _ _ c.in_ok-whole.ensures c.truth.ensures h).gathers) c.check_in.ensures

pub returns-clause-lists : goal.returns-clause-lists
returns-clause-lists c =
    on_ok_weaker c.check_in.result (λ h. condition_listed c.args.cx.now.spec.now c.args.message.now _ c.in-Some.is (placed _ _ _ _ _ c.in_ok-whole.ensures c.truth.ensures h).lists) c.check_in.ensures
