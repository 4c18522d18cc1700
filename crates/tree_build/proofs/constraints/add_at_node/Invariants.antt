use Rattle.std.proofs.Common.{◌≡◌, ◌++◌, List, take}
use Rattle.flow_term.specs.declared.graph.Edge.{Edge}
use Rattle.tree_build.specs.Ends.{AreEnds}
use Rattle.tree_build.specs.Numbers.{AreOrigins, node_of}
use Rattle.tree_build.specs.inner.Hits.{listed_at_each}
use Rattle.tree_build.proofs.constraints.add_at_node.Given as goal

abbrev pub invariant-loop-place : goal.invariant-loop-place
invariant-loop-place l = ((edges : List Edge) → AreOrigins l.nodes edges l.origins.forward.items l.origins.backward.items
    → l.rows.constraints ≡ l.initial.rows.constraints ++ listed_at_each l.hits (take l.place l.properties.numbers) (take l.place l.properties.list) edges (node_of l.nodes l.number))
    × (AreEnds l.properties.list l.nodes l.initial.rows.ends l.initial.rows.constraints → AreEnds l.properties.list l.nodes l.rows.ends l.rows.constraints)
