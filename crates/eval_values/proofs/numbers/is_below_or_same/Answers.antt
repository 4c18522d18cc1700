use Rattle.std.proofs.Common.{ap, ◌∙◌}
use Rattle.std.specs.Ordering.{is_le}
use Rattle.value_domains.specs.inner.Elements.{derived_order}
use Rattle.eval_values.proofs.numbers.is_below_or_same.Goals as goal

pub returns : goal.returns
returns c = c.is_le.ensures ∙ ap is_le c.cmp.ensures ∙ ap (λ R. is_le (R c.args.x.now c.args.y.now)) derived_order
