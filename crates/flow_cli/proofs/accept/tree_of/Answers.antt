use Rattle.std.proofs.Common.{ℕ, List, refl, ap, ◌∙◌}
use Rattle.std.specs.Prelude.{codes}
use Rattle.flow_term.proofs.Outcomes.{if_ok}
use Rattle.flow_cli.specs.Accepted.{at_place, term_name, no_term}
use Rattle.flow_cli.specs.Files.{refusal_line}
use Rattle.flow_cli.proofs.FileLemmas.{read_fitted}
use Rattle.flow_cli.proofs.accept.tree_of.Goals as goal

pub returns-in-Ok-clause-form : goal.returns-in-Ok-clause-form
returns-in-Ok-clause-form c = if_ok c.fitted.result c.fitted.ensures.form (read_fitted c.args.spec.now.spec.signature c.args.bytes.now c.in-Ok.tree c.in-Ok.ensures.found)

pub returns-in_ok-bytes-in-Err-Fault-clause-form : goal.returns-in_ok-bytes-in-Err-Fault-clause-form
returns-in_ok-bytes-in-Err-Fault-clause-form c = (
  at_place (term_name c.in-Err-Fault.kind) c.in-Err-Fault.offset,
  no_term c.in-Err-Fault.offset c.in-Err-Fault.kind (rw c.in-Err-Fault.field-0-is at c.in-Err-Fault.ensures.fault) refl,
  c.in_ok-bytes-in-Err-Fault.ensures ∙ ap (λ (cause : List ℕ). refusal_line (codes "tree") (at_place cause c.in-Err-Fault.offset)) c.term_name.ensures,
)
