use Rattle.flow_links.proofs.SetLemmas.{Gains-same}
use Rattle.graph_shape.proofs.planning.add_through.Goals as goal

pub returns-in_ok-add_passing : goal.returns-in_ok-add_passing
returns-in_ok-add_passing c = Gains-same c.in_ok-add_passing.ensures (λ x. (λ e. (c.if-root.true, e), λ h. h.1))
