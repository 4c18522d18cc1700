use Rattle.std.proofs.Common.{ap}
use Rattle.std.specs.List.{flat_map}
use Rattle.flow_syntax.specs.DeclFaults.{sort_names}
use Rattle.check_decls.specs.declared.unknown.Space.TheVariants as space
use Rattle.check_decls.specs.inner.Noting.{IsUndeclared, knows}
use Rattle.check_decls.specs.inner.Sections.{ConstructorFaults}
use Rattle.check_decls.proofs.Laws.{Gathers-no_item, Gathers-one_more, Gathers-those, Gathers-whole}
use Rattle.check_decls.proofs.section.note_constructors.Goals as goal

pub loop-constructor-init : goal.loop-constructor-init
loop-constructor-init c = Gathers-no_item (ConstructorFaults c.args.names.now) c.args.earliest.now

pub loop-constructor-preserved : goal.loop-constructor-preserved
loop-constructor-preserved c =
    Gathers-one_more (ConstructorFaults c.args.names.now) c.args.constructors.now c.loop-constructor.constructor-index c.constructor-item.result c.loop-constructor-test.true c.constructor-item.is c.loop-constructor.invariant
    (Gathers-those (IsUndeclared (knows c.args.names.now space.Sorts)) _ _ (ap (flat_map sort_names) c.as_slice.ensures) c.note_all_sorts.ensures)

pub returns : goal.returns
returns c = Gathers-whole (ConstructorFaults c.args.names.now) (λ cs. cs) c.args.constructors.now c.loop-constructor.constructor-index c.loop-constructor-test.false c.loop-constructor.invariant
