use Rattle.std.proofs.Common.{◌≡◌, List, take}
use Rattle.std.specs.List.{flat_map}
use Rattle.flow_term.specs.declared.graph.Edge.{Edge}
use Rattle.tree_listing.specs.Listing.{listed_at_node}
use Rattle.tree_build.specs.Ends.{AreEnds}
use Rattle.tree_build.specs.Numbers.{AreOrigins}
use Rattle.tree_build.proofs.constraints.list_all.Given as goal

abbrev pub invariant-loop-number : goal.invariant-loop-number
invariant-loop-number g l = ((edges : List Edge) → AreOrigins l.nodes edges l.origins.forward.items l.origins.backward.items
    → l.rows.constraints ≡ flat_map (listed_at_node (g.R.RuleSource.spec l.rules) l.tree l.properties.list edges) (take l.number l.nodes))
    × AreEnds l.properties.list l.nodes l.rows.ends l.rows.constraints
