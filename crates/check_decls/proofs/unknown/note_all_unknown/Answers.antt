use Rattle.check_decls.specs.inner.Noting.{IsUndeclared, knows}
use Rattle.check_decls.proofs.Laws.{Gathers-no_item, Gathers-one_more, Gathers-whole}
use Rattle.check_decls.proofs.unknown.note_all_unknown.Goals as goal

pub loop-name-init : goal.loop-name-init
loop-name-init c = Gathers-no_item (IsUndeclared (knows c.args.names.now c.args.space)) c.args.earliest.now

pub loop-name-preserved : goal.loop-name-preserved
loop-name-preserved c =
    Gathers-one_more (IsUndeclared (knows c.args.names.now c.args.space)) c.args.list.now c.loop-name.name-index c.name-item.result c.loop-name-test.true c.name-item.is c.loop-name.invariant c.note_unknown.ensures

pub returns : goal.returns
returns c = Gathers-whole (IsUndeclared (knows c.args.names.now c.args.space)) (λ names. names) c.args.list.now c.loop-name.name-index c.loop-name-test.false c.loop-name.invariant
