use Rattle.std.proofs.Common.{map, take}
use Rattle.flow_syntax.specs.ExprFaults.{body_of}
use Rattle.check_base.specs.Earliest.{Gathers, FirstHave}
use Rattle.expr_typing.specs.Listing.{Lists}
use Rattle.check_exprs.specs.inner.Noted.{noted_types}
use Rattle.check_exprs.specs.inner.Own.{WholeHas}
use Rattle.check_exprs.proofs.rules.check_rules.Given as goal

abbrev pub invariant-loop-rule : goal.invariant-loop-rule
invariant-loop-rule l = record {
  gathers : Gathers l.fn.notes.earliest l.notes.earliest (FirstHave (λ k rule. WholeHas l.cx.spec.now (body_of l.cx.spec.now rule)) l.rule-index l.rules);
  lists : Lists l.cx.spec.now (map (body_of l.cx.spec.now) (take l.rule-index l.rules)) (noted_types l.fn.notes) (noted_types l.notes);
}
