-- What solving a tree gives.
use Rattle.std.specs.Prelude.{◌≡◌, List, map}
use Rattle.flow_term.specs.declared.graph.Unknown.{Unknown}
use Rattle.flow_term.specs.declared.term.Term.{Term}
use Rattle.flow_term.specs.declared.value.Value.{Value}
use Rattle.flow_term.specs.declared.value.Valued.{Valued}
use Rattle.flow_syntax.specs.declared.spec.Spec.{Spec}
use Rattle.flow_syntax.specs.Types.{Typing}
use Rattle.tree_constraints.specs.declared.constraint.Constraint.{Constraint}
use Rattle.tree_constraints.specs.Solutions.{AreConstraints, AreUnknowns, IsSolution}

-- These are the constraints and the unknowns of some tree.
pub record IsOfTree (spec : Spec) (cs : List Constraint) (us : List Unknown) : Type 0 where
  pub tree : Term
  pub are_constraints : AreConstraints spec tree cs
  pub are_unknowns : AreUnknowns spec tree us

abbrev pub valued : Unknown → Value → Valued
valued u v = record { unknown = u; value = v }

-- each unknown with its value
abbrev pub values_at : (Unknown → Value) → List Unknown → List Valued
values_at a us = map (λ u. valued u (a u)) us

-- The list gives each unknown of the tree, in order, its value in the tree's solution.
pub record IsAnalysis (spec : Spec) (types : List Typing) (tree : Term) (list : List Valued) : Type 0 where
  pub unknowns : List Unknown
  pub are_unknowns : AreUnknowns spec tree unknowns
  pub solution : Unknown → Value
  pub is_solution : IsSolution spec types tree solution
  pub listed : list ≡ values_at solution unknowns
