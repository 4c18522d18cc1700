use Rattle.std.proofs.Common.{ℕ, List, refl, ap, ◌∙◌}
use Rattle.std.specs.Prelude.{codes}
use Rattle.flow_term.proofs.Outcomes.{if_ok}
use Rattle.flow_cli.specs.Accepted.{at_place, lexical_name, no_tokens}
use Rattle.flow_cli.specs.Files.{refusal_line}
use Rattle.flow_cli.proofs.FileLemmas.{read_tokens}
use Rattle.flow_cli.proofs.accept.specification_of.Goals as goal

pub returns-in-Ok-clause-form : goal.returns-in-Ok-clause-form
returns-in-Ok-clause-form c = if_ok c.specification_of_tokens.result c.specification_of_tokens.ensures.form (read_tokens c.args.bytes.now c.in-Ok.tokens c.in-Ok.ensures.found)

pub returns-in_ok-bytes-in-Err-Fault-clause-form : goal.returns-in_ok-bytes-in-Err-Fault-clause-form
returns-in_ok-bytes-in-Err-Fault-clause-form c = (
  at_place (lexical_name c.in-Err-Fault.kind) c.in-Err-Fault.offset,
  no_tokens c.in-Err-Fault.offset c.in-Err-Fault.kind (rw c.in-Err-Fault.field-0-is at c.in-Err-Fault.ensures.fault) refl,
  c.in_ok-bytes-in-Err-Fault.ensures ∙ ap (λ (cause : List ℕ). refusal_line (codes "specification") (at_place cause c.in-Err-Fault.offset)) c.lexical_name.ensures,
)
