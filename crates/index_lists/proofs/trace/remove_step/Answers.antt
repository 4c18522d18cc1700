use Rattle.std.proofs.Common.{◌∙◌, ap, nat_eq}
use Rattle.list_theory.specs.Lists.{has}
use Rattle.linked_lists.specs.Chains.{list_in}
use Rattle.index_lists.specs.Records.{first}
use Rattle.index_lists.proofs.GroupLemmas.{there_grouped}
use Rattle.index_lists.proofs.TraceLemmas.{step_removed}
use Rattle.index_lists.proofs.trace.remove_step.Goals as goal

pub remove-requires : goal.remove-requires
remove-requires c =
    ap (λ k. has nat_eq (list_in c.args.by_target.now k) c.args.number) (ap first c.remove-target.ensures.value)
    ∙ there_grouped first c.args.steps.now.entries c.args.by_target.now c.args.number c.requires.trace.grouped c.requires.there

pub returns-clause-trace : goal.returns-clause-trace
returns-clause-trace c =
    step_removed c.args.steps.now.entries _ c.args.by_target.now _ c.args.number c.remove-target.result c.requires.trace c.remove-target.ensures.once c.requires.there c.remove-target.ensures.value c.remove-target.ensures.entries c.remove.ensures
