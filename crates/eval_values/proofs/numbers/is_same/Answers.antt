use Rattle.std.proofs.Common.{ap, ◌∙◌}
use Rattle.std.specs.Ordering.{is_eq}
use Rattle.lattice_any.proofs.Elems.{same_is}
use Rattle.eval_values.proofs.numbers.is_same.Goals as goal

pub returns : goal.returns
returns c = c.is_eq.ensures ∙ ap is_eq c.cmp.ensures ∙ same_is c.args.x.now c.args.y.now
