use Rattle.std.proofs.Common.{take, map}
use Rattle.flow_syntax.specs.Occurrences.{arguments, occurrence}
use Rattle.check_exprs.specs.inner.Noted.{AreNoted}
use Rattle.check_exprs.specs.inner.Scoping.{scope_of}
use Rattle.expr_typing.specs.Views.{expected_of}
use Rattle.check_exprs.proofs.walk.+check.Given as goal

abbrev pub invariant-note_each-loop-expr : goal.invariant-note_each-loop-expr
invariant-note_each-loop-expr l = AreNoted l.cx.spec.now (map (occurrence (scope_of l.scope) (expected_of l.expected)) (take l.expr-index l.exprs)) l.fn.notes l.notes

abbrev pub invariant-note_arguments-loop-at : goal.invariant-note_arguments-loop-at
invariant-note_arguments-loop-at l = AreNoted l.cx.spec.now (arguments (scope_of l.scope) l.declared (take l.at l.given)) l.fn.notes l.notes
