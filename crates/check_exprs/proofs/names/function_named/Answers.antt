use Rattle.std.proofs.Common.{ap, sym, ◌∙◌}
use Rattle.std.specs.Prelude.{slice_get, option_and_then}
use Rattle.check_base.proofs.Finding.{found_function}
use Rattle.check_exprs.proofs.names.function_named.Goals as goal

pub returns : goal.returns
returns c =
    c.numbered.ensures ∙ ap (λ ds. option_and_then (slice_get ds) c.function_named.result) c.as_slice.ensures ∙ ap (option_and_then (slice_get c.args.cx.now.spec.now.functions)) c.function_named.ensures
    ∙ sym (found_function c.args.cx.now.spec.now c.args.cx.now.names.now c.requires c.args.name.now)
