-- What the code's scopes stand for.
use Rattle.std.specs.Prelude.{map}
use Rattle.flow_syntax.specs.Scopes.{Scope, with_variable}
use Rattle.check_exprs.specs.declared.scope.Scope.{Scope as ScopeValue, Scope-F, fold-Scope}
use Rattle.check_exprs.specs.declared.scope.Whole.{Whole}
use Rattle.check_exprs.specs.inner.Variables.{pattern_variable}
use Rattle.expr_typing.specs.Views.{sort_in}

abbrev pub whole_scope : Whole → Scope
whole_scope w = record { variables = map pattern_variable w.variables.list.items; prev = w.prev; next = w.next }

abbrev pub scope_layer : Scope-F Scope → Scope
scope_layer (Scope-F.Outer w) = whole_scope w.now
scope_layer (Scope-F.Inner outer v) = with_variable outer.now v.name.now (sort_in v.sort)

abbrev pub scope_of : ScopeValue → Scope
scope_of = fold-Scope Scope scope_layer
