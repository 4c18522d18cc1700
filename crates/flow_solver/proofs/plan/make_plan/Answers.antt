use Rattle.std.proofs.Common.{ap, sym, ◌∙◌}
use Rattle.std.specs.Prelude.{nat_eq}
use Rattle.list_theory.specs.Lists.{has}
use Rattle.flow_solver.proofs.RetractLemmas as retracting
use Rattle.flow_solver.proofs.plan.make_plan.Goals as goal

pub make_bottoms-requires-clause-used : goal.make_bottoms-requires-clause-used
make_bottoms-requires-clause-used g c =
    rw c.system-system.ensures (λ u h. retracting.taint_used (g.S.System.meaning c.args.progress.now.system) (g.S.System.next c.args.progress.now.system c.args.edit.now) (g.S.System.change c.args.edit.now) (g.met.S.System.laws c.args.progress.now.system).monotone (g.met.S.System.edits c.args.progress.now.system c.args.edit.now c.requires.edit).0.monotone (g.met.S.System.edits c.args.progress.now.system c.args.edit.now c.requires.edit).1
    (has nat_eq c.taint.new.tainted) c.args.progress.now.steps c.requires.known c.in_ok-taint.ensures u (ap (λ us. has nat_eq us u) (sym c.items-tainted.ensures.items) ∙ h))

pub renew-requires-clause-used : goal.renew-requires-clause-used
renew-requires-clause-used g c =
    rw c.system-system.ensures (λ u h. retracting.taint_used (g.S.System.meaning c.args.progress.now.system) (g.S.System.next c.args.progress.now.system c.args.edit.now) (g.S.System.change c.args.edit.now) (g.met.S.System.laws c.args.progress.now.system).monotone (g.met.S.System.edits c.args.progress.now.system c.args.edit.now c.requires.edit).0.monotone (g.met.S.System.edits c.args.progress.now.system c.args.edit.now c.requires.edit).1
    (has nat_eq c.taint.new.tainted) c.args.progress.now.steps c.requires.known c.in_ok-taint.ensures u (ap (λ us. has nat_eq us u) (sym c.items-tainted.ensures.items) ∙ h))

pub returns : goal.returns
returns g c = record {
  tainted = c.in_ok-taint.ensures;
  renewed = record {
    exactly = rw (c.system-system.ensures, c.items-tainted.ensures.items) at c.in_ok-renew.ensures;
    once = c.items-each_once.ensures.once;
  };
  bottoms = rw (c.system-system.ensures, c.items-tainted.ensures.items) at c.in_ok-make_bottoms.ensures;
}
