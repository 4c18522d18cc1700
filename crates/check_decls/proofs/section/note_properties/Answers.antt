use Rattle.check_decls.specs.inner.Sections.{PropertyFaults}
use Rattle.check_decls.proofs.Laws.{Gathers-no_item, Gathers-one_more, Gathers-whole}
use Rattle.check_decls.proofs.section.note_properties.Goals as goal

pub loop-property-init : goal.loop-property-init
loop-property-init c = Gathers-no_item (PropertyFaults c.args.names.now) c.args.earliest.now

pub loop-property-preserved : goal.loop-property-preserved
loop-property-preserved c =
    Gathers-one_more (PropertyFaults c.args.names.now) c.args.properties.now c.loop-property.property-index c.property-item.result c.loop-property-test.true c.property-item.is c.loop-property.invariant c.note_property.ensures

pub returns : goal.returns
returns c = Gathers-whole (PropertyFaults c.args.names.now) (λ xs. xs) c.args.properties.now c.loop-property.property-index c.loop-property-test.false c.loop-property.invariant
