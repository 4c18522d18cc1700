use Rattle.std.proofs.Common.{sym, ◌∙◌, ap, ◌+◌, drop}
use Rattle.std.specs.Prelude.{option_and_then}
use Rattle.std.specs.Option.{option_copied}
use Rattle.flow_term.specs.declared.term.Term.{Term}
use Rattle.flow_term.specs.Trees.{At}
use Rattle.flow_term.proofs.AlongPaths.{At_next}
use Rattle.flow_term.proofs.tree.term_at.Goals as goal

pub returns-in_err-at : goal.returns-in_err-at
returns-in_err-at c =
    ap option_copied c.from_residual.ensures
    ∙ ap (option_and_then (λ (child : Term). At child (drop (c.loop-step.step-index + 1) c.as_slice-step-items.result.now))) c.in_err-at.ensures
    ∙ sym (At_next c.loop-step.at.now c.as_slice-step-items.result.now c.loop-step.step-index c.loop-step-test.true)
    ∙ c.loop-step.invariant

pub loop-step-preserved : goal.loop-step-preserved
loop-step-preserved c =
    ap (option_and_then (λ (child : Term). At child (drop (c.loop-step.step-index + 1) c.as_slice-step-items.result.now))) c.in_ok-at.ensures
    ∙ sym (At_next c.loop-step.at.now c.as_slice-step-items.result.now c.loop-step.step-index c.loop-step-test.true)
    ∙ c.loop-step.invariant
