-- Which bodies are simple, and what the analysis doesn't take yet.
use Rattle.std.specs.Prelude.{◌≡◌, ℕ, ◌≤◌, Bool, true, false, IsTrue, Contains}
use Rattle.std.specs.List.{list_any}
use Rattle.flow_syntax.specs.declared.expr.Expr.{Expr, out-Expr}
use Rattle.flow_syntax.specs.declared.expr.ExprKind.TheOpen.{ExprKind-F}
use Rattle.flow_syntax.specs.declared.expr.SetOp.TheVariants as operations
use Rattle.flow_syntax.specs.declared.property.PropRule.{PropRule}
use Rattle.flow_syntax.specs.declared.spec.Spec.{Spec}
use Rattle.flow_syntax.specs.declared.tables.FunctionDecl.{FunctionDecl}
use Rattle.flow_syntax.specs.declared.tables.TableDecl.{TableDecl}
use Rattle.flow_syntax.specs.Expressions.{ExprLayer, expr_layer, preorder}

-- whether a layer of an expression is a read of a property
abbrev pub is_read : ExprLayer → Bool
is_read (ExprKind-F.Read property side) = true
is_read _ = false

-- whether an expression or a part of it is a read
abbrev pub holds_read : Expr → Bool
holds_read e = list_any (λ part. is_read (expr_layer part)) (preorder e)

-- An expression is fixed where it holds no read.
abbrev pub IsFixed : Expr → Type 0
IsFixed e = holds_read e ≡ false

-- An expression is simple:
pub data IsSimple : Expr → Type 0 where
  -- it is fixed
  fixed : (e : Expr) → IsFixed e → IsSimple e
  -- it is a read
  read : (e : Expr) → IsTrue (is_read (expr_layer e)) → IsSimple e
  -- it is the join of simple ones
  joined : (e a b : Expr) → expr_layer e ≡ ExprKind-F.Set2 operations.Join a b → IsSimple a → IsSimple b → IsSimple e
  -- it is the union of simple ones
  united : (e a b : Expr) → expr_layer e ≡ ExprKind-F.Set2 operations.Union a b → IsSimple a → IsSimple b → IsSimple e
  -- it is a simple one without a fixed one
  without : (e a b : Expr) → expr_layer e ≡ ExprKind-F.Set2 operations.Minus a b → IsSimple a → IsFixed b → IsSimple e

-- What isn't taken yet stands at a place:
pub data IsNotYet (spec : Spec) (place : ℕ) : Type 0 where
  -- the name of a lattice
  lattice : (l : TableDecl) → Contains spec.lattices l → place ≡ l.name.place → IsNotYet spec place
  -- the name of a function
  function : (f : FunctionDecl) → Contains spec.functions f → place ≡ f.name.place → IsNotYet spec place
  -- the body of a property's rule that isn't simple
  body : (rule : PropRule) → Contains spec.rules rule → ¬ IsSimple rule.body → place ≡ (out-Expr rule.body).place → IsNotYet spec place

-- What isn't taken yet stands at this place, and at no lesser one.
pub record IsFirstNotYet (spec : Spec) (place : ℕ) : Type 0 where
  pub stands : IsNotYet spec place
  pub least : (other : ℕ) → IsNotYet spec other → place ≤ other
