use Rattle.std.proofs.Common.{take}
use Rattle.check_base.specs.Earliest.{Gathers, FirstHave}
use Rattle.expr_typing.specs.Listing.{Lists}
use Rattle.check_exprs.specs.inner.Noted.{conditions_of, noted_types}
use Rattle.check_exprs.specs.inner.Own.{ConditionHas}
use Rattle.check_exprs.proofs.rules.check_messages.Given as goal

abbrev pub invariant-loop-message : goal.invariant-loop-message
invariant-loop-message l = record {
  gathers : Gathers l.fn.notes.earliest l.notes.earliest (FirstHave (λ k message. ConditionHas l.cx.spec.now message) l.message-index l.messages);
  lists : Lists l.cx.spec.now (conditions_of (take l.message-index l.messages)) (noted_types l.fn.notes) (noted_types l.notes);
}
