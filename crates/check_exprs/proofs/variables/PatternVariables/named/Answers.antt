use Rattle.std.proofs.Common.{Some, None, ap, sym, ◌∙◌}
use Rattle.std.specs.Prelude.{slice_get}
use Rattle.std.specs.Option.{option_map}
use Rattle.check_exprs.specs.inner.Variables.{pattern_variable, variable_of}
use Rattle.check_exprs.proofs.Finding.{variable_found}
use Rattle.check_exprs.proofs.variables.PatternVariables.named.Goals as goal

pub returns-in_err-number : goal.returns-in_err-number
returns-in_err-number c =
    ap (option_map variable_of) c.from_residual.ensures ∙ sym (variable_found c.args.self.now.list.items c.args.name.now None (c.in_err-number.ensures ∙ c.args.self.now.numbered c.args.name.now))

pub returns : goal.returns
returns c =
    c.variable_at.ensures ∙ ap (λ vs. option_map pattern_variable (slice_get vs c.in_ok-number.number)) c.as_slice.ensures.value
    ∙ sym (variable_found c.args.self.now.list.items c.args.name.now (Some c.in_ok-number.number) (c.in_ok-number.ensures ∙ c.args.self.now.numbered c.args.name.now))
