use Rattle.std.proofs.Common.{List, subst, sym}
use Rattle.flow_syntax.specs.declared.signature.Constructor.{Constructor}
use Rattle.tree_fitting.specs.Fits.{FitsBelow, named_sort}
use Rattle.tree_fitting.proofs.FitLemmas.{fits_child}
use Rattle.check_trees.proofs.check.sort_behind.Goals as goal

pub sort_below-requires-clause-fits : goal.sort_below-requires-clause-fits
sort_below-requires-clause-fits c =
    fits_child c.as_slice-constructors.result.now (named_sort c.args.signature.now.start) c.args.tree.now
    (subst (λ (cs : List Constructor). FitsBelow cs (named_sort c.args.signature.now.start) c.args.tree.now) (sym c.as_slice-constructors.ensures) c.requires.fits)
    c.args.first c.in_ok-child.child.now c.in_ok-sort.sort.now (sym c.in_ok-child.ensures) (sym c.in_ok-sort.ensures)
