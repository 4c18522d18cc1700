use Rattle.std.proofs.Common.{ap, sym, ◌∙◌}
use Rattle.std.specs.Prelude.{slice_get, option_and_then}
use Rattle.check_exprs.proofs.Finding.{got}
use Rattle.check_exprs.proofs.names.numbered.Goals as goal

pub returns-in-Some : goal.returns-in-Some
returns-in-Some g c = got _ _ _ c.get.ensures.lookup.0 c.get.ensures.lookup.1 ∙ ap (option_and_then (slice_get c.args.items.now)) (sym c.in-Some.is)
