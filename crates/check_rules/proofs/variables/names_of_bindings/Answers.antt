use Rattle.std.proofs.Common.{bytes_eq}
use Rattle.flow_syntax.specs.Binders.{Binder}
use Rattle.check_rules.specs.inner.Tables.{binder_by}
use Rattle.check_rules.proofs.Loops.{any_shown}
use Rattle.check_rules.proofs.variables.names_of_bindings.Goals as goal

pub loop-binding-preserved : goal.loop-binding-preserved
loop-binding-preserved c = λ x. any_shown (λ (b : Binder). bytes_eq x b.name) binder_by c.args.bindings.now c.loop-binding.binding-index c.binding-item.result _ _ c.loop-binding-test.true c.binding-item.is (c.loop-binding.invariant x) (c.in_ok-add_name.ensures x)
