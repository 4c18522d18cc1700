use Rattle.std.proofs.Common.{subst}
use Rattle.flow_eval.proofs.Bodies.{ready_accepted}
use Rattle.flow_eval.proofs.Causes.{accepted_or_refused}
use Rattle.flow_eval.proofs.Parts.{accepted_refusal, same_refusal}
use Rattle.flow_eval.specs.Accepted.{IsAccepted}
use Rattle.flow_eval.specs.Tables.{types_in}
use Rattle.flow_syntax.specs.declared.spec.TypedSpec.{TypedSpec}
use Rattle.flow_eval.proofs.ready.Ready.prepare.Goals as goal

pub returns-in-Ok-clause-first : goal.returns-in-Ok-clause-first
returns-in-Ok-clause-first c why refused = (
  accepted_or_refused c.args.spec.spec c.args.spec.faultless c.args.spec.small_functions (types_in c.args.spec) why
      (subst (λ (s : TypedSpec). IsAccepted s.spec (types_in s)) c.ready_of.ensures (ready_accepted c.ready_of.result)) refused,
  tt,
)

pub returns-in-Err-clause-only : goal.returns-in-Err-clause-only
returns-in-Err-clause-only c is = accepted_refusal c.args.spec c.in-Err.refusal c.in-Err.ensures.refused is

pub returns-in-Err-clause-first : goal.returns-in-Err-clause-first
returns-in-Err-clause-first c why refused = (tt, same_refusal c.args.spec c.in-Err.refusal why c.in-Err.ensures.refused refused)
