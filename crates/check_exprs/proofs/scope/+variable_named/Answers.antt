use Rattle.std.proofs.Common.{◌∙◌, sym, ap, cond, Option, None, Some, bytes_eq}
use Rattle.std.specs.Option.{option_or}
use Rattle.flow_syntax.specs.Scopes.{Variable}
use Rattle.check_exprs.specs.inner.Variables.{variable_of}
use Rattle.check_exprs.proofs.Scoping.{named_inner}
use Rattle.check_exprs.proofs.scope.+variable_named.Goals as goal

pub returns-in-Some : goal.returns-in-Some
returns-in-Some t c =
    sym (named_inner _ c.args.name.now _ _ c.in-Inner.is ∙ ap (λ (o : Option Variable). option_or o (cond (bytes_eq c.args.name.now c.in-Inner.variable.name.now) (Some (variable_of c.in-Inner.variable)) None)) (sym c.in-Some.ensures))

pub returns-then-eq : goal.returns-then-eq
returns-then-eq t c =
    sym (named_inner _ c.args.name.now _ _ c.in-Inner.is
    ∙ ap (λ (o : Option Variable). option_or o (cond (bytes_eq c.args.name.now c.in-Inner.variable.name.now) (Some (variable_of c.in-Inner.variable)) None)) (sym c.in-None.ensures)
    ∙ ap (λ b. cond b (Some (variable_of c.in-Inner.variable)) None) (sym c.if-eq.ensures))

pub returns-else-eq : goal.returns-else-eq
returns-else-eq t c =
    sym (named_inner _ c.args.name.now _ _ c.in-Inner.is
    ∙ ap (λ (o : Option Variable). option_or o (cond (bytes_eq c.args.name.now c.in-Inner.variable.name.now) (Some (variable_of c.in-Inner.variable)) None)) (sym c.in-None.ensures)
    ∙ ap (λ b. cond b (Some (variable_of c.in-Inner.variable)) None) (sym c.if-eq.ensures))
