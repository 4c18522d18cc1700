use Rattle.std.proofs.Common.{◌≡◌, ◌++◌, map, take, List}
use Rattle.std.specs.Option.{option_copied}
use Rattle.tree_constraints.specs.declared.constraint.Origin.TheVariants as from
use Rattle.tree_constraints.specs.Constraints.{unknown_at}
use Rattle.tree_listing.specs.declared.property.Property.{Property}
use Rattle.tree_listing.specs.Listing.{constraint_by}
use Rattle.tree_build.specs.Ends.{AreEnds, StandsAt}
use Rattle.tree_build.specs.Numbers.{node_of}
use Rattle.tree_build.proofs.constraints.add_along.Given as goal

abbrev pub invariant-loop-origin : goal.invariant-loop-origin
invariant-loop-origin l = (l.rows.constraints ≡ l.initial.rows.constraints ++ map (λ i. constraint_by (option_copied l.hit) (unknown_at l.node l.property) (from.Along (node_of l.nodes i))) (take l.origin-index l.row))
    × ((properties : List Property) → StandsAt properties l.nodes l.number l.place l.node l.property → AreEnds properties l.nodes l.initial.rows.ends l.initial.rows.constraints → AreEnds properties l.nodes l.rows.ends l.rows.constraints)
