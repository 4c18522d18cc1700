use Rattle.std.proofs.Common.{◌≡◌, drop}
use Rattle.tree_fitting.specs.Fits.{FitsBelow, expected_below}
use Rattle.check_trees.proofs.expected.sort_below.Given as goal

-- what is left of the path leads from here to the sort to which the whole path leads from the root
abbrev pub invariant-loop-step : goal.invariant-loop-step
invariant-loop-step l = record {
  fits : FitsBelow l.constructors l.wanted l.at;
  same : expected_below l.constructors l.wanted l.at (drop l.step-index l.steps) ≡ expected_below l.constructors l.fn.sort l.fn.term l.steps;
}
