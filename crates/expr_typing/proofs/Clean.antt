-- Expressions without faults: what is inferred of them, and that they are as expected.
use Rattle.std.proofs.Common.{◌≡◌, ℕ, zero, suc, Bool, true, false, List, [], ◌∷◌, ◌++◌, length, arith, Option, Some, None, refl, sym, ap, subst, ◌∙◌}
use Rattle.std.specs.Prelude.{Contains, ◌==◌, if◌then◌else◌}
use Rattle.std.specs.List.{AllByRecursion}
use Rattle.std.specs.Option.{option_map_or}
use Rattle.std.proofs.lemmas.Bool.{true≢false}
use Rattle.std.proofs.lemmas.Bool.Decides.{Decides-eqb}
use Rattle.std.proofs.lemmas.List.{length-map}
use Rattle.flow_syntax.specs.declared.expr.Expr.{Expr, out-Expr, fold_out-Expr}
use Rattle.flow_syntax.specs.declared.expr.ExprKind.{fold_out-ExprKind}
use Rattle.flow_syntax.specs.declared.expr.ExprKind.TheOpen.{ExprKind-F}
use Rattle.flow_syntax.specs.declared.fault.SpecFaultKind.{SpecFaultKind}
use Rattle.flow_syntax.specs.declared.fault.SpecFaultKind.TheVariants as kinds
use Rattle.flow_syntax.specs.declared.spec.Spec.{Spec}
use Rattle.flow_syntax.specs.declared.tables.FunctionDecl.{FunctionDecl}
use Rattle.flow_syntax.specs.Expressions.{ExprLayer, expr_layer}
use Rattle.flow_syntax.specs.ExprFaults.{FaultsWithin, own, inner, mismatch, misnamed, IsMiscounted, IsMisnamed, own_inferred}
use Rattle.flow_syntax.specs.Occurrences.{Occurrence, parts_of, form_shape}
use Rattle.flow_syntax.specs.Scopes.{Scope, can_read}
use Rattle.flow_syntax.specs.Inferred.{Inferred, faulty, is_well_named, inferred_layer, inferred, inferred_parts, function_named}
use Rattle.flow_syntax.specs.Expected.{IsMismatch}

-- what holds of each item of two lists holds of each of both
pub all_append : {X : Type 0} (P : X → Type 0) (xs ys : List X) → AllByRecursion P xs → AllByRecursion P ys → AllByRecursion P (xs ++ ys)
all_append P [] ys h k = k
all_append P (x ∷ xs) ys h k = (h.0, all_append P xs ys h.1 k)

-- what holds of each item of a list holds of one that it has
pub at_each : {X : Type 0} (P : X → Type 0) (xs : List X) (x : X) → AllByRecursion P xs → Contains xs x → P x
at_each P [] x h (k, l, e) = absurd (omega arith)
at_each P (y ∷ ys) x h (zero, l, e) = subst P e h.0
at_each P (y ∷ ys) x h (suc k, l, e) = at_each P ys x h.1 (k, omega arith, e)

-- what is inferred of an expression, by its layer
pub told_out : (spec : Spec) (s : Scope) (e : Expr) → inferred spec s e ≡ inferred_layer spec s (inferred_parts spec s (expr_layer e))
told_out spec s e = fold_out-Expr Inferred Inferred (inferred_layer spec s) (λ x. x.kind) e ∙ fold_out-ExprKind Inferred Inferred (inferred_layer spec s) (λ x. x.kind) (out-Expr e).kind

pub well_named_parts : (spec : Spec) (s : Scope) (layer : ExprLayer) → is_well_named spec s (inferred_parts spec s layer) ≡ is_well_named spec s layer
well_named_parts spec s (ExprKind-F.Call f args) = ap (λ n. option_map_or (λ d. length d.args == n) (function_named spec f) true) (length-map args (inferred spec s))
well_named_parts spec s layer = refl

-- a test that isn't failed is passed
pub passed : (b : Bool) → ((b ≡ false) → ⊥) → b ≡ true
passed true h = refl
passed false h = absurd (h refl)

module _ (spec : Spec) where
  -- An expression and its parts have no fault.
  abbrev pub IsClean : Occurrence → Type 0
  IsClean p = (at : ℕ) (kind : SpecFaultKind) → ¬ FaultsWithin spec at kind p

  pub part_clean : (p q : Occurrence) → IsClean p → Contains (parts_of spec p) q → IsClean q
  part_clean p q clean among at kind h = clean at kind (inner p q among h)

  pub names_right : (p : Occurrence) → IsClean p → (kind : SpecFaultKind) → ¬ IsMisnamed spec p.scope (expr_layer p.expr) kind
  names_right p clean kind h = clean (out-Expr p.expr).place kind (own p refl (misnamed kind h))

  counted : (o : Option FunctionDecl) (args : List Expr) → ¬ IsMiscounted o args → option_map_or (λ d. length d.args == length args) o true ≡ true
  counted None args h = refl
  counted (Some f) args h = passed (length f.args == length args) (λ e. h (λ same. true≢false (sym ((Decides-eqb (length f.args) (length args)).1 same) ∙ e)))

  well_named : (s : Scope) (layer : ExprLayer) → ((kind : SpecFaultKind) → ¬ IsMisnamed spec s layer kind) → is_well_named spec s layer ≡ true
  well_named s (ExprKind-F.Read p side) h = passed (can_read s side) (h kinds.Unbound)
  well_named s (ExprKind-F.Call f args) h = counted (function_named spec f) args (h kinds.Arity)
  well_named s layer h = refl

  -- what is inferred of an expression is what its form gives
  pub inferred_own : (p : Occurrence) → IsClean p → inferred spec p.scope p.expr ≡ own_inferred spec p
  inferred_own p clean =
      told_out spec p.scope p.expr
      ∙ ap (λ b. if b then own_inferred spec p else faulty) (well_named_parts spec p.scope (expr_layer p.expr) ∙ well_named p.scope (expr_layer p.expr) (names_right p clean))

  -- the type is as expected
  pub fits : (p : Occurrence) → IsClean p → ¬ IsMismatch p.expected (form_shape (expr_layer p.expr)) (own_inferred spec p)
  fits p clean h = clean (out-Expr p.expr).place kinds.Sort (own p refl (mismatch h))
