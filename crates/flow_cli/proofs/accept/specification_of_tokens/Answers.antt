use Rattle.std.proofs.Common.{ℕ, List, refl, ap, ◌∙◌}
use Rattle.std.specs.Prelude.{codes}
use Rattle.flow_term.proofs.Outcomes.{if_ok}
use Rattle.flow_parse.specs.Faults.{cause_of}
use Rattle.flow_cli.specs.Accepted.{at_place, syntax_name, ill_formed}
use Rattle.flow_cli.specs.Files.{refusal_line}
use Rattle.flow_cli.proofs.FileLemmas.{read_spec}
use Rattle.flow_cli.proofs.accept.specification_of_tokens.Goals as goal

pub returns-in-Ok-clause-form : goal.returns-in-Ok-clause-form
returns-in-Ok-clause-form c = if_ok c.checked.result c.checked.ensures.form (read_spec c.args.tokens.now c.in-Ok.spec c.in-Ok.ensures.found)

pub returns-in_ok-bytes-in-Err-Fault-clause-form : goal.returns-in_ok-bytes-in-Err-Fault-clause-form
returns-in_ok-bytes-in-Err-Fault-clause-form c = (
  at_place (syntax_name (cause_of c.in-Err-Fault.kind)) c.in-Err-Fault.place,
  ill_formed c.in-Err-Fault.place (cause_of c.in-Err-Fault.kind) (rw c.in-Err-Fault.field-0-is at c.in-Err-Fault.ensures.fault) refl,
  c.in_ok-bytes-in-Err-Fault.ensures ∙ ap (λ (cause : List ℕ). refusal_line (codes "specification") (at_place cause c.in-Err-Fault.place)) c.syntax_name.ensures,
)
