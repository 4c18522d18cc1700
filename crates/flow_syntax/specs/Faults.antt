-- The faults of a specification that the grammar has.
use Rattle.std.specs.Prelude.{ℕ}
use Rattle.flow_syntax.specs.declared.fault.SpecFaultKind.{SpecFaultKind}
use Rattle.flow_syntax.specs.declared.spec.Spec.{Spec}
use Rattle.flow_syntax.specs.DeclFaults.{IsFaultyDeclaration}
use Rattle.flow_syntax.specs.ExprFaults.{IsFaultyExpression}
use Rattle.flow_syntax.specs.RuleFaults.{IsFaultyRule}
use Rattle.flow_syntax.specs.VariableFaults.{IsFaultyVariable}

-- A specification has a fault of this kind at a place: of a declaration, of a control rule or a pattern, of a variable or a message's part, or of an expression.
pub data HasFault (spec : Spec) (place : ℕ) (kind : SpecFaultKind) : Type 0 where
  declaration : IsFaultyDeclaration spec place kind → HasFault spec place kind
  rule : IsFaultyRule spec place kind → HasFault spec place kind
  variable : IsFaultyVariable spec place kind → HasFault spec place kind
  expression : IsFaultyExpression spec place kind → HasFault spec place kind

-- A specification has no fault.
abbrev pub HasNoFault : Spec → Type 0
HasNoFault spec = (place : ℕ) (kind : SpecFaultKind) → ¬ HasFault spec place kind
