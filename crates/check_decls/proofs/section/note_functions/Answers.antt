use Rattle.check_decls.specs.inner.Sections.{FunctionFaults}
use Rattle.check_decls.proofs.Laws.{Gathers-no_item, Gathers-one_more, Gathers-whole}
use Rattle.check_decls.proofs.section.note_functions.Goals as goal

pub loop-function-init : goal.loop-function-init
loop-function-init c = Gathers-no_item (FunctionFaults c.args.spec.now c.args.names.now) c.args.earliest.now

pub loop-function-preserved : goal.loop-function-preserved
loop-function-preserved c =
    Gathers-one_more (FunctionFaults c.args.spec.now c.args.names.now) c.args.functions.now c.loop-function.function-index c.function-item.result c.loop-function-test.true c.function-item.is c.loop-function.invariant c.note_function.ensures

pub returns : goal.returns
returns c = Gathers-whole (FunctionFaults c.args.spec.now c.args.names.now) (λ xs. xs) c.args.functions.now c.loop-function.function-index c.loop-function-test.false c.loop-function.invariant
