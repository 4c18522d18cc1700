-- The solution of a tree, as lists.
use Rattle.std.specs.Prelude.{◌≡◌, List, map}
use Rattle.flow_term.specs.declared.graph.Unknown.{Unknown}
use Rattle.flow_term.specs.declared.term.Term.{Term}
use Rattle.flow_term.specs.declared.value.Value.{Value}
use Rattle.flow_term.specs.declared.value.Valued.{Valued}
use Rattle.flow_syntax.specs.declared.spec.Spec.{Spec}
use Rattle.flow_syntax.specs.Types.{Typing}
use Rattle.tree_constraints.specs.Solutions.{AreUnknowns, IsSolution}
use Rattle.tree_listing.specs.Given.{AreEdges, AreNodes}
use Rattle.flow_cert.specs.declared.solution.Solution.{Solution}

-- an unknown with its value under an assignment
abbrev pub valued_by : (Unknown → Value) → Unknown → Valued
valued_by a u = record { unknown = u; value = a u }

module _ (spec : Spec) (types : List Typing) (tree : Term) where
  -- These are the unknowns of the tree, in order, with their values in its least solution.
  pub record AreValues (values : List Valued) : Type 0 where
    pub unknowns : List Unknown
    pub are_unknowns : AreUnknowns spec tree unknowns
    pub assignment : Unknown → Value
    pub solves : IsSolution spec types tree assignment
    pub valued : values ≡ map (valued_by assignment) unknowns

  -- This is the solution of the tree: its nodes and edges, and its values.
  pub record IsSolutionOf (solution : Solution) : Type 0 where
    pub nodes : AreNodes spec tree solution.nodes
    pub edges : AreEdges spec tree solution.edges
    pub values : AreValues solution.values
