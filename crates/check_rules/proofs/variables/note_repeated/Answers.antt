use Rattle.std.proofs.Common.{ap, arith, bytes_eq, map, ◌||◌, ◌∙◌}
use Rattle.std.proofs.lemmas.List.{length-map}
use Rattle.check_base.proofs.GathersLaws.{Gathers-all}
use Rattle.flow_syntax.specs.Binders.{Binder}
use Rattle.check_rules.specs.inner.Tables.{binder_by, is_constant_in}
use Rattle.check_rules.proofs.Loops.{any_shown, gathers_if, gathers_shown}
use Rattle.check_rules.proofs.variables.note_repeated.Goals as goal

pub loop-binding-preserved : goal.loop-binding-preserved
loop-binding-preserved c = record {
  gathered = gathers_shown binder_by c.args.bindings.now c.loop-binding.binding-index c.binding-item.result c.loop-binding-test.true c.binding-item.is c.loop-binding.invariant.gathered
      (gathers_if (c.is_taken-is_taken.ensures ∙ ap (λ b. b || is_constant_in c.args.names.now c.binding-item.result.name.now) (c.loop-binding.invariant.bound c.binding-item.result.name.now)) c.note_if.ensures);
  bound = λ x. any_shown (λ (b : Binder). bytes_eq x b.name) binder_by c.args.bindings.now c.loop-binding.binding-index c.binding-item.result _ _ c.loop-binding-test.true c.binding-item.is (c.loop-binding.invariant.bound x) (c.in_ok-add_name.ensures x);
}

pub returns : goal.returns
returns c = Gathers-all (map binder_by c.args.bindings.now) c.loop-binding.binding-index (omega (arith, length-map c.args.bindings.now binder_by)) c.loop-binding.invariant.gathered
