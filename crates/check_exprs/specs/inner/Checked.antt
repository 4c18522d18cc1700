-- What a check of expressions does.
use Rattle.std.specs.Prelude.{◌≡◌, ℕ, List, Option}
use Rattle.flow_syntax.specs.declared.expr.Expr.{Expr, out-Expr}
use Rattle.flow_syntax.specs.declared.expr.ExprKind.TheVariants as exprs
use Rattle.flow_syntax.specs.declared.spec.Spec.{Spec}
use Rattle.flow_syntax.specs.Scopes.{Scope}
use Rattle.flow_syntax.specs.Inferred.{Inferred, inferred, function_named, result_inferred}
use Rattle.flow_syntax.specs.Occurrences.{Occurrence, arguments, declared_arguments, parts_of}
use Rattle.flow_syntax.specs.ExprFaults.{own_inferred}
use Rattle.check_exprs.specs.declared.notes.Notes.{Notes}
use Rattle.check_exprs.specs.inner.Noted.{IsNoted, AreNoted}

-- The faults of an expression and its parts are noted, their types are listed, and what is answered is inferred of it.
pub record IsChecked (spec : Spec) (p : Occurrence) (old new : Notes) (answer : Inferred) : Type 0 where
  pub noted : IsNoted spec p old new
  pub infers : answer ≡ inferred spec p.scope p.expr

-- The faults of the parts of an expression are noted, their types are listed, and what is answered is what its form gives.
pub record HasCheckedParts (spec : Spec) (p : Occurrence) (old new : Notes) (answer : Inferred) : Type 0 where
  pub noted : AreNoted spec (parts_of spec p) old new
  pub infers : answer ≡ own_inferred spec p

-- The faults of the arguments of a call are noted, their types are listed, and what is answered is the type of what the function gives.
pub record HasCheckedArguments (spec : Spec) (scope : Scope) (name : List ℕ) (given : List Expr) (old new : Notes) (answer : Inferred) : Type 0 where
  pub noted : AreNoted spec (arguments scope (declared_arguments (function_named spec name)) given) old new
  pub infers : answer ≡ result_inferred (function_named spec name)

-- An expression is a set of listed elements.
pub record IsSetOf (e : Expr) : Type 0 where
  pub elements : List Expr
  pub is : (out-Expr e).kind ≡ exprs.SetOf elements

-- An expression is a map of listed keys and values.
pub record IsMapOf (e : Expr) : Type 0 where
  pub keys : List Expr
  pub values : List Expr
  pub is : (out-Expr e).kind ≡ exprs.MapOf keys values

-- An expression is a set that is chosen from another one.
pub record IsChoose (e : Expr) : Type 0 where
  pub element : Expr
  pub name : List ℕ
  pub set : Expr
  pub condition : Option Expr
  pub is : (out-Expr e).kind ≡ exprs.Choose element name set condition

-- An expression asks whether an element is in a set.
pub record IsMember (e : Expr) : Type 0 where
  pub element : Expr
  pub set : Expr
  pub is : (out-Expr e).kind ≡ exprs.Member element set

-- An expression names the element of a flat value.
pub record IsBind (e : Expr) : Type 0 where
  pub name : List ℕ
  pub flat : Expr
  pub body : Expr
  pub is : (out-Expr e).kind ≡ exprs.Bind name flat body
