-- Edges from each of some nodes to each of others.
use Rattle.std.specs.Prelude.{◌≡◌, List, Contains}
use Rattle.flow_term.specs.declared.graph.Edge.{Edge}
use Rattle.flow_term.specs.declared.graph.Node.{Node}

-- the edge leads from the node to one of these
pub record LeadsTo (source : Node) (targets : List Node) (e : Edge) : Type 0 where
  pub from : e.from ≡ source
  pub to : Contains targets e.to

-- it leads from one of the first nodes to one of the others
pub record IsPairOf (sources targets : List Node) (e : Edge) : Type 0 where
  pub from : Contains sources e.from
  pub to : Contains targets e.to
