use Rattle.std.proofs.Common.{sym, ◌∙◌, ap, ◌+◌, drop}
use Rattle.std.specs.Prelude.{option_and_then}
use Rattle.std.specs.Option.{option_copied}
use Rattle.path_tree.specs.Shapes.{PartAt}
use Rattle.path_tree.proofs.AlongPaths.{PartAt_next}
use Rattle.path_tree.proofs.tree.PathTree.part.Goals as goal

pub returns-in_err-at : goal.returns-in_err-at
returns-in_err-at g c =
    ap option_copied c.from_residual.ensures
    ∙ ap (option_and_then (λ child. PartAt child (drop (c.loop-step.step-index + 1) c.args.path.now))) c.in_err-at.ensures
    ∙ sym (PartAt_next c.loop-step.at.now c.args.path.now c.loop-step.step-index c.loop-step-test.true)
    ∙ c.loop-step.invariant

pub loop-step-preserved : goal.loop-step-preserved
loop-step-preserved g c =
    ap (option_and_then (λ child. PartAt child (drop (c.loop-step.step-index + 1) c.args.path.now))) c.in_ok-at.ensures
    ∙ sym (PartAt_next c.loop-step.at.now c.args.path.now c.loop-step.step-index c.loop-step-test.true)
    ∙ c.loop-step.invariant
