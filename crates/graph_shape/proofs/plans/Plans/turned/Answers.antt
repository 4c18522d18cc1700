use Rattle.std.proofs.Common.{ap, map, ◌∙◌}
use Rattle.graph_shape.specs.Mirrored.{turn}
use Rattle.graph_shape.proofs.Turned.{plans_turned}
use Rattle.graph_shape.proofs.plans.Plans.turned.Goals as goal

pub returns : goal.returns
returns c = plans_turned c.args.self.now (record { rules = c.in_ok-rules.rules; unmatched = c.in_ok-unmatched.unmatched })
    (c.in_ok-rules.ensures ∙ ap (map (map turn)) c.as_slice.ensures) (c.in_ok-unmatched.ensures ∙ ap (map turn) c.as_slice-2.ensures)
