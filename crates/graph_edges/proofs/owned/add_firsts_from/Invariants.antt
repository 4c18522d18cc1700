use Rattle.flow_links.specs.inner.Gains.{Gains}
use Rattle.path_tree.specs.Shapes.{children_of}
use Rattle.graph_edges.specs.Owned.{IsFirstFromItem}
use Rattle.graph_edges.proofs.Listing.{ArePassedFrom}
use Rattle.graph_edges.proofs.owned.add_firsts_from.Given as goal

abbrev pub invariant-loop-at : goal.invariant-loop-at
invariant-loop-at l = record {
  gains : Gains l.fn.out l.out (IsFirstFromItem l.plans (children_of l.shape) l.path l.start l.at);
  passed : ArePassedFrom l.plans (children_of l.shape) l.path l.start l.at;
}
