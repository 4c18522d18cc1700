use Rattle.std.proofs.Common.{Some, None, sym, ◌∙◌, ap}
use Rattle.std.specs.Option.{option_copied}
use Rattle.tree_fitting.proofs.FitLemmas.{fits_child}
use Rattle.check_trees.proofs.PathLemmas.{next_child, next_none}
use Rattle.check_trees.proofs.expected.sort_below.Goals as goal

pub returns-in_err-wanted : goal.returns-in_err-wanted
returns-in_err-wanted c =
    ap option_copied c.from_residual.ensures
    ∙ sym (next_none c.args.constructors.now c.loop-step.wanted.now c.loop-step.at.now c.loop-step.invariant.fits c.args.steps.now c.loop-step.step-index c.loop-step-test.true (sym c.in_err-wanted.ensures))
    ∙ c.loop-step.invariant.same

pub returns-in_err-at : goal.returns-in_err-at
returns-in_err-at c =
    ap option_copied c.from_residual-in_err-at.ensures
    ∙ sym (next_child c.args.constructors.now c.loop-step.wanted.now c.loop-step.at.now c.loop-step.invariant.fits c.args.steps.now c.loop-step.step-index c.loop-step-test.true
    (Some c.in_ok-wanted.wanted.now) None (sym c.in_ok-wanted.ensures) (sym c.in_err-at.ensures))
    ∙ c.loop-step.invariant.same

pub loop-step-preserved : goal.loop-step-preserved
loop-step-preserved c = record {
  fits = fits_child c.args.constructors.now c.loop-step.wanted.now c.loop-step.at.now c.loop-step.invariant.fits _ c.in_ok-at.at.now c.in_ok-wanted.wanted.now (sym c.in_ok-at.ensures) (sym c.in_ok-wanted.ensures);
  same = sym (next_child c.args.constructors.now c.loop-step.wanted.now c.loop-step.at.now c.loop-step.invariant.fits c.args.steps.now c.loop-step.step-index c.loop-step-test.true
      (Some c.in_ok-wanted.wanted.now) (Some c.in_ok-at.at.now) (sym c.in_ok-wanted.ensures) (sym c.in_ok-at.ensures))
      ∙ c.loop-step.invariant.same;
}
