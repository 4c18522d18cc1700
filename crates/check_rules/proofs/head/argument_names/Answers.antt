use Rattle.flow_syntax.specs.Control.{is_variable_in}
use Rattle.flow_syntax.specs.Matching.{pattern_layer}
use Rattle.check_rules.proofs.Loops.{any_more}
use Rattle.check_rules.proofs.head.argument_names.Goals as goal

pub loop-argument-preserved : goal.loop-argument-preserved
loop-argument-preserved c = λ x. any_more (λ p. is_variable_in x (pattern_layer p)) c.args.arguments.now c.loop-argument.argument-index c.argument-item.result _ _ c.loop-argument-test.true c.argument-item.is (c.loop-argument.invariant x) (c.in_ok-add_variable.ensures x)
