use Rattle.std.proofs.Common.{ap, sym, ◌∙◌}
use Rattle.std.specs.Prelude.{slice_get, option_and_then}
use Rattle.std.specs.Option.{option_copied}
use Rattle.check_base.proofs.Finding.{found_lattice}
use Rattle.check_decls.proofs.size.lattice_called.Goals as goal

pub returns-in_err-number : goal.returns-in_err-number
returns-in_err-number c =
    ap option_copied c.from_residual.ensures ∙ ap (option_and_then (slice_get c.args.spec.now.lattices)) c.in_err-number.ensures ∙ sym (found_lattice c.args.spec.now c.args.names.now c.requires c.args.name.now)

pub returns : goal.returns
returns c =
    c.lattice_at.ensures ∙ ap (λ ls. slice_get ls c.in_ok-number.number) c.as_slice.ensures ∙ ap (option_and_then (slice_get c.args.spec.now.lattices)) c.in_ok-number.ensures
    ∙ sym (found_lattice c.args.spec.now c.args.names.now c.requires c.args.name.now)
