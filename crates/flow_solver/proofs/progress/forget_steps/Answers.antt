use Rattle.std.proofs.Common.{◌∙◌, arith}
use Rattle.std.specs.Prelude.{nat_eq, get_or}
use Rattle.list_theory.proofs.ListLemmas.{has-get_or}
use Rattle.list_theory.proofs.NumberLemmas.{numbers_exact}
use Rattle.flow_solver.proofs.ForgetLemmas as forget
use Rattle.flow_solver.proofs.progress.forget_steps.Goals as goal

pub aiming-requires : goal.aiming-requires
aiming-requires g c = c.requires.used _ (has-get_or nat_eq numbers_exact c.args.unknowns.now c.loop-unknown.unknown-index 0 c.loop-unknown-test.true)

pub loop-unknown-preserved : goal.loop-unknown-preserved
loop-unknown-preserved g c = record {
  marked = forget.marked_next (g.S.System.meaning c.args.system.now) c.loop-unknown.trace c.remove_target.new.self c.loop-unknown.made.items c.unmark_each.new.marks.items (get_or c.args.unknowns.now c.loop-unknown.unknown-index 0) c.as_slice.result.now
      c.loop-unknown.invariant.marked c.remove_target.ensures (c.as_slice.ensures ∙ c.aiming.ensures) c.unmark_each.ensures.marks;
  kept = forget.forgotten_next c.args.unknowns.now c.loop-unknown.unknown-index c.loop-unknown.trace c.remove_target.new.self c.loop-unknown-test.true c.remove_target.ensures ∙ c.loop-unknown.invariant.kept;
  len = c.unmark_each.ensures.len ∙ c.loop-unknown.invariant.len;
}

pub returns-clause-trace : goal.returns-clause-trace
returns-clause-trace g c = forget.forgotten_end c.args.unknowns.now c.loop-unknown.unknown-index c.loop-unknown.trace c.args.trace.now (omega (arith, c.loop-unknown-test.false)) c.loop-unknown.invariant.kept
