-- The tables of a system, from where its constraints stand.
use Rattle.std.specs.Prelude.{◌≡◌, ℕ, ◌+◌, ◌*◌, List, [], ◌∷◌, map, Option, Some, None, slice_get}
use Rattle.flow_term.specs.declared.graph.Node.{Node}
use Rattle.flow_term.specs.declared.graph.Unknown.{Unknown}
use Rattle.flow_term.specs.declared.term.Term.{Term}
use Rattle.flow_syntax.specs.declared.property.PropRule.{PropRule}
use Rattle.flow_syntax.specs.declared.spec.Spec.{Spec}
use Rattle.typed_bodies.specs.Anywhere.{reads_at}
use Rattle.tree_constraints.specs.declared.constraint.Constraint.{Constraint}
use Rattle.tree_constraints.specs.Solutions.{AreConstraints}
use Rattle.tree_listing.specs.Given.{AreNodes}
use Rattle.tree_listing.specs.Listing.{listed_unknowns}
use Rattle.tree_build.specs.declared.ends.Ends.{Ends}
use Rattle.tree_build.specs.declared.properties.Properties.{Properties}
use Rattle.tree_build.specs.Ends.{AreEnds}
use Rattle.tree_build.specs.Prepared.{ArePrepared}
use Rattle.tree_system.specs.declared.bodies.Reading.{Reading}
use Rattle.tree_system.specs.declared.reading.Bases.{Bases}
use Rattle.tree_system.specs.Bodies.{readings_from}
use Rattle.tree_system.specs.Reading.{number_at}

-- what stands where no constraint does
abbrev pub no_ends : Ends
no_ends = record { number = 0; place = 0; origin = 0 }

-- the numbers of the first unknowns of the nodes at which a constraint aims and from which its value comes, where each node has so many properties
abbrev pub bases_by : ℕ → Ends → Bases
bases_by properties e = record { this = e.number * properties; other = e.origin * properties }

-- the number of what is read
abbrev pub number_by : Bases → List ℕ → Reading → ℕ
number_by bases places r = number_at bases places r.property r.side

-- these are the numbers of what a constraint with this rule reads; a copy reads its own property, at this place, where its value comes from
abbrev pub IsRow : Spec → Bases → ℕ → List ℕ → Option ℕ → List ℕ → Type 0
IsRow spec b place places None row = row ≡ (b.other + place) ∷ []
IsRow spec b place places (Some i) row = (rule : PropRule) → slice_get spec.rules i ≡ Some rule → row ≡ map (number_by b places) (readings_from (reads_at spec rule.body) 0 spec.properties)

-- These are the constraints and the unknowns of some tree with these nodes, and beside each constraint where it stands.
pub record AreListed (spec : Spec) (properties : Properties) (nodes : List Node) (constraints : List Constraint) (ends : List Ends) (unknowns : List Unknown) : Type 0 where
  pub tree : Term
  pub prepared : ArePrepared spec properties
  pub are_nodes : AreNodes spec tree nodes
  pub are_constraints : AreConstraints spec tree constraints
  pub are_ends : AreEnds properties.list nodes ends constraints
  pub unknowns_are : unknowns ≡ listed_unknowns properties.list nodes
