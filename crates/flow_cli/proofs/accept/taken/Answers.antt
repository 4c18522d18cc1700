use Rattle.std.proofs.Common.{refl, rules}
use Rattle.std.specs.Prelude.{codes}
use Rattle.flow_cli.specs.Accepted.{at_place, not_yet}
use Rattle.flow_cli.proofs.accept.taken.Goals as goal

pub returns-in-Ok-clause-form : goal.returns-in-Ok-clause-form
returns-in-Ok-clause-form c = (refl, record { faultless = c.args.typed.faultless; simple = c.in-Ok.ensures.accepted.0 refl })

pub returns-in_ok-bytes-in-Err-clause-form : goal.returns-in_ok-bytes-in-Err-clause-form
returns-in_ok-bytes-in-Err-clause-form c = (
  at_place (codes "not yet") c.in-Err.place,
  not_yet c.in-Err.place c.args.typed.faultless (rw c.in-Err.place-is at (c.in-Err.ensures.refused c.in-Err.field-0.place).0 refl) refl,
  search rules,
)
