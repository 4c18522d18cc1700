use Rattle.std.proofs.Common.{◌≡◌, sym, ap, ◌∙◌}
use Rattle.flow_syntax.specs.Graph.{IsInner, point_of}
use Rattle.flow_syntax.proofs.LinkEnds.{inner_is_no_node}
use Rattle.flow_links.proofs.EndLemmas.{point_of_injective}
use Rattle.flow_term.proofs.Outcomes.{on_ok}
use Rattle.flow_links.proofs.SetLemmas.{Gains-same, Gains-none}
use Rattle.flow_links.proofs.nodes.add_node.Goals as goal

pub returns-in-Some : goal.returns-in-Some
returns-in-Some c =
    let is : c.args.point.now ≡ point_of c.in-Some.node = rw c.in-Some.is at c.in_ok-node.ensures in
    on_ok c.add.result c.add.ensures (λ h. Gains-same h (λ node. (λ e. is ∙ ap point_of (sym e), λ e. point_of_injective node c.in-Some.node (sym e ∙ is))))

pub returns-in-None : goal.returns-in-None
returns-in-None c =
    let inner : IsInner c.args.point.now = rw c.in-None.is at c.in_ok-node.ensures in
    Gains-none c.args.nodes.now.keys (λ node. inner_is_no_node c.args.point.now node inner)
