use Rattle.graph_shape.proofs.building.kept.Goals as goal

pub returns-clause-summary : goal.returns-clause-summary
returns-clause-summary c spec usable rule shapes = record { rule = rule; list = c.is_items.ensures; passes = c.in_ok-passes.ensures spec usable rule shapes }
