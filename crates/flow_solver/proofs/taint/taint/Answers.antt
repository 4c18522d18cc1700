use Rattle.std.proofs.Common.{arith, ap, ◌∙◌, ◌≡◌, ◌<◌, length, map}
use Rattle.std.specs.Prelude.{nat_eq, filter, get_or}
use Rattle.constraint_theory.specs.Systems.{numbers, readers}
use Rattle.list_theory.specs.Lists.{has, push_all}
use Rattle.list_theory.proofs.ListLemmas.{has-get_or}
use Rattle.list_theory.proofs.NumberLemmas.{numbers_exact}
use Rattle.flow_solver.proofs.TaintLemmas as walk
use Rattle.flow_solver.proofs.taint.taint.Goals as goal

pub loop-done-init : goal.loop-done-init
loop-done-init g c =
    walk.walk_start (g.S.System.meaning c.args.progress.now.system) (g.S.System.next c.args.progress.now.system c.args.edit.now) (g.S.System.change c.args.edit.now) (g.met.S.System.laws c.args.progress.now.system).monotone (g.met.S.System.edits c.args.progress.now.system c.args.edit.now c.requires.edit).1 c.args.progress.now.steps c.requires.known
    c.taint_targets.new.tainted c.as_slice.result.now (c.as_slice.ensures ∙ c.gone.ensures)
    (c.in_ok-taint_targets.ensures ∙ ap (λ ys. push_all nat_eq ys (map (g.S.System.meaning c.args.progress.now.system).target (filter (has nat_eq c.args.progress.now.steps) c.as_slice.result.now))) c.clear.ensures)

pub readers-requires : goal.readers-requires
readers-requires g c =
    let more : c.loop-done.done < length c.loop-done.tainted = omega (arith, c.loop-done-test.true, ap length c.items.ensures.items) in
    rw (c.system-in-loop-done.ensures, c.items-in-loop-done.ensures.items) (c.loop-done.invariant.used _ (has-get_or nat_eq numbers_exact c.loop-done.tainted c.loop-done.done 0 more))

pub loop-done-smaller : goal.loop-done-smaller
loop-done-smaller g c =
    let more : c.loop-done.done < length c.loop-done.tainted = omega (arith, c.loop-done-test.true, ap length c.items.ensures.items) in
    let short = walk.walk_short (g.S.System.meaning c.args.progress.now.system) (g.S.System.next c.args.progress.now.system c.args.edit.now) (g.S.System.change c.args.edit.now) (g.met.S.System.laws c.args.progress.now.system).monotone (g.met.S.System.edits c.args.progress.now.system c.args.edit.now c.requires.edit).1 c.args.progress.now.steps c.requires.known c.loop-done.tainted c.loop-done.done c.loop-done.invariant in
    omega (arith, more, short)

pub taint_targets-requires-in-loop-done : goal.taint_targets-requires-in-loop-done
taint_targets-requires-in-loop-done g c =
    let are : c.as_slice-in-loop-done.result.now ≡ readers numbers (g.S.System.meaning c.args.progress.now.system) (get_or c.loop-done.tainted c.loop-done.done 0) = rw (c.system-in-loop-done.ensures, c.items-in-loop-done.ensures.items) at (c.as_slice-in-loop-done.ensures ∙ c.readers.ensures) in
    λ k h. (walk.reader_known (g.S.System.meaning c.args.progress.now.system) c.as_slice-in-loop-done.result.now (get_or c.loop-done.tainted c.loop-done.done 0) are k h)

pub loop-done-preserved : goal.loop-done-preserved
loop-done-preserved g c =
    let more : c.loop-done.done < length c.loop-done.tainted = omega (arith, c.loop-done-test.true, ap length c.items.ensures.items) in
    let are : c.as_slice-in-loop-done.result.now ≡ readers numbers (g.S.System.meaning c.args.progress.now.system) (get_or c.loop-done.tainted c.loop-done.done 0) = rw (c.system-in-loop-done.ensures, c.items-in-loop-done.ensures.items) at (c.as_slice-in-loop-done.ensures ∙ c.readers.ensures) in
    walk.walk_next (g.S.System.meaning c.args.progress.now.system) (g.S.System.next c.args.progress.now.system c.args.edit.now) (g.S.System.change c.args.edit.now) (g.met.S.System.laws c.args.progress.now.system).monotone (g.met.S.System.edits c.args.progress.now.system c.args.edit.now c.requires.edit).1 c.args.progress.now.steps c.requires.known
    c.loop-done.tainted c.taint_targets-in-loop-done.new.tainted c.as_slice-in-loop-done.result.now c.loop-done.done c.loop-done.invariant more are c.in_ok-taint_targets-2.ensures
