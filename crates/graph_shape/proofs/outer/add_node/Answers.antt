use Rattle.std.proofs.Common.{sym, ◌∙◌}
use Rattle.flow_term.proofs.Outcomes.{on_ok}
use Rattle.graph_shape.specs.Outer.{stop_node}
use Rattle.graph_shape.proofs.OuterNodes.{node_gains}
use Rattle.graph_shape.proofs.outer.add_node.Goals as goal

pub returns-in-Some : goal.returns-in-Some
returns-in-Some c = on_ok c.push.result c.push.ensures.ok (λ longer. node_gains c.args.out.now c.push.new.self (stop_node c.args.path.now c.args.stop) c.in-Some.node (sym c.in_ok-node_of.ensures ∙ c.in-Some.is) longer)
