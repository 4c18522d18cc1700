use Rattle.std.proofs.Common.{ap, sym, ◌∙◌}
use Rattle.std.specs.Prelude.{slice_get, option_and_then}
use Rattle.check_base.proofs.Finding.{found_item}
use Rattle.check_exprs.proofs.names.enum_with.Goals as goal

pub returns : goal.returns
returns c =
    c.numbered.ensures ∙ ap (λ ds. option_and_then (slice_get ds) c.enum_with_item.result) c.as_slice.ensures ∙ ap (option_and_then (slice_get c.args.cx.now.spec.now.enums)) c.enum_with_item.ensures
    ∙ sym (found_item c.args.cx.now.spec.now c.args.cx.now.names.now c.requires c.args.name.now)
