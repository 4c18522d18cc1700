-- Scopes by their layers.
use Rattle.std.proofs.Common.{arith, ◌≡◌, ℕ, cond, List, None, Some, ap, ◌∙◌, bytes_eq}
use Rattle.std.specs.Borrow.{Bor}
use Rattle.std.specs.Option.{option_or}
use Rattle.std.proofs.lemmas.List.Folds.{find-append}
use Rattle.flow_syntax.specs.Scopes.{Variable, with_variable, variable_named}
use Rattle.check_exprs.specs.declared.scope.Scope.{Scope as ScopeValue, the_lemmas}
use Rattle.check_exprs.specs.declared.scope.Scope.TheVariants as scopes
use Rattle.check_exprs.specs.declared.variables.Variable.{Variable as VariableValue}
use Rattle.check_exprs.specs.inner.Scoping.{scope_of}
use Rattle.check_exprs.specs.inner.Variables.{variable_of}
use Rattle.expr_typing.specs.Views.{sort_in}

pub scope_of_inner : (outer : Bor ScopeValue) (v : VariableValue) → scope_of (scopes.Inner outer v) ≡ with_variable (scope_of outer.now) v.name.now (sort_in v.sort)
scope_of_inner outer v = grind (arith, the_lemmas)

-- the variable of a name in a scope with one more variable
pub named_inner : (s : ScopeValue) (x : List ℕ) (outer : Bor ScopeValue) (v : VariableValue) → s ≡ scopes.Inner outer v
    → variable_named (scope_of s) x ≡ option_or (variable_named (scope_of outer.now) x) (cond (bytes_eq x v.name.now) (Some (variable_of v)) None)
named_inner s x outer v is = ap (λ t. variable_named (scope_of t) x) is ∙ ap (λ t. variable_named t x) (scope_of_inner outer v) ∙ find-append (λ (y : Variable). bytes_eq x y.name) (scope_of outer.now).variables _
