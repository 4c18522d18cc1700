use Rattle.graph_shape.proofs.Planned.{plan_of_none}
use Rattle.graph_shape.proofs.plans.Plans.new.Goals as goal

pub returns : goal.returns
returns c = record {
  count = c.in_ok-rules.ensures.count;
  each = c.in_ok-rules.ensures.each;
  none = plan_of_none c.in_ok-unmatched.unmatched c.in_ok-unmatched.ensures;
}
