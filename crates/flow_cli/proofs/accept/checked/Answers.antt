use Rattle.std.proofs.Common.{ℕ, List, refl, ap, ◌∙◌}
use Rattle.std.specs.Prelude.{codes}
use Rattle.flow_cli.specs.Accepted.{at_place, sort_name, faulty}
use Rattle.flow_cli.specs.Files.{refusal_line}
use Rattle.flow_cli.proofs.accept.checked.Goals as goal

pub returns-in_ok-bytes-in-Err-Fault-clause-form : goal.returns-in_ok-bytes-in-Err-Fault-clause-form
returns-in_ok-bytes-in-Err-Fault-clause-form c = (
  at_place (sort_name c.in-Err-Fault.kind) c.in-Err-Fault.place,
  faulty c.in-Err-Fault.place c.in-Err-Fault.kind (rw c.in-Err-Fault.field-0-is at c.in-Err-Fault.ensures.fault) refl,
  c.in_ok-bytes-in-Err-Fault.ensures ∙ ap (λ (cause : List ℕ). refusal_line (codes "specification") (at_place cause c.in-Err-Fault.place)) c.sort_name.ensures,
)
