use Rattle.std.proofs.Common.{List, ◌∙◌, ap, map, subst}
use Rattle.flow_term.proofs.Outcomes.{on_ok}
use Rattle.check_base.specs.Earliest.{Gathers}
use Rattle.flow_syntax.specs.Binders.{Binder}
use Rattle.check_rules.specs.Faults.{RebindsIn}
use Rattle.check_rules.specs.inner.Tables.{binder_by}
use Rattle.check_rules.proofs.Repeats.{gathers_rebound}
use Rattle.check_rules.proofs.variables.note_rebound.Goals as goal

pub returns : goal.returns
returns g c = on_ok c.note_repeated.result c.note_repeated.ensures (λ noted.
    subst (λ (bs : List Binder). Gathers c.args.earliest.now c.note_repeated.new.earliest (RebindsIn c.args.spec.now bs)) (ap (map binder_by) c.as_slice.ensures.value ∙ c.in_ok-bindings.ensures)
    (gathers_rebound c.args.spec.now c.args.names.now c.requires (map binder_by c.as_slice.result.now) noted))
