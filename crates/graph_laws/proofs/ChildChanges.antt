-- Two terms at one position that differ in one child.
use Rattle.std.specs.Prelude.{◌≡◌, ◌≢◌, ◌↔◌, ℕ, Bool, List, length, slice_get}
use Rattle.flow_term.specs.declared.term.Term.{Term}
use Rattle.flow_term.specs.declared.graph.Point.{Point}
use Rattle.flow_term.specs.Annotations.{term_layer}
use Rattle.flow_term.specs.Trees.{children}
use Rattle.flow_syntax.specs.declared.spec.Spec.{Spec}
use Rattle.flow_syntax.specs.Control.{rule_for}
use Rattle.flow_syntax.specs.Matching.{is_list}
use Rattle.graph_laws.specs.Parts.{Exit, child_first, child_last, child_passes}

-- The terms have one matching rule and the same children but for the one with this number.
pub record DifferInChild (spec : Spec) (t t' : Term) (k : ℕ) : Type 0 where
  pub rule : rule_for spec t' ≡ rule_for spec t
  pub list : is_list (term_layer t') ≡ is_list (term_layer t)
  pub count : length (children t') ≡ length (children t)
  pub others : (j : ℕ) → j ≢ k → slice_get (children t') j ≡ slice_get (children t) j

-- The child with this number has in both the same first and last nodes, and is passed in both or in neither.
pub record SameChild (spec : Spec) (entered : Bool) (t t' : Term) (path : List ℕ) (k : ℕ) : Type 0 where
  pub first : (n : Point) → child_first spec entered t path k n ↔ child_first spec entered t' path k n
  pub last : (e : Exit) (n : Point) → child_last spec entered t path k e n ↔ child_last spec entered t' path k e n
  pub passes : (e : Exit) → child_passes spec entered t path k e ↔ child_passes spec entered t' path k e
