use Rattle.std.proofs.Common.{ap, sym, ◌∙◌}
use Rattle.std.specs.Prelude.{slice_get, option_and_then}
use Rattle.check_base.proofs.Finding.{found_element}
use Rattle.check_exprs.proofs.names.lattice_with.Goals as goal

pub returns : goal.returns
returns c =
    c.numbered.ensures ∙ ap (λ ds. option_and_then (slice_get ds) c.lattice_with_element.result) c.as_slice.ensures ∙ ap (option_and_then (slice_get c.args.cx.now.spec.now.lattices)) c.lattice_with_element.ensures
    ∙ sym (found_element c.args.cx.now.spec.now c.args.cx.now.names.now c.requires c.args.name.now)
