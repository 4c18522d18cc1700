use Rattle.std.proofs.Common.{rules, ◌<◌, length}
use Rattle.flow_syntax.specs.declared.spec.Named.{Named}
use Rattle.value_domains.specs.Domains.{place_in, texts_of}
use Rattle.lattice_any.proofs.Members.{all_taken, one_more}
use Rattle.lattice_tests.proofs.tables.are_elements.Goals as goal

pub loop-name-preserved : goal.loop-name-preserved
loop-name-preserved c =
    one_more (λ (n : Named). place_in (texts_of c.args.elements.now) n.text < length c.args.elements.now) c.args.names.now c.loop-name.name-index c.name-item.result c.loop-name-test.true c.name-item.is c.loop-name.invariant (search rules)

pub returns : goal.returns
returns c = λ told. all_taken (λ (n : Named). place_in (texts_of c.args.elements.now) n.text < length c.args.elements.now) c.args.names.now c.loop-name.name-index (search rules) c.loop-name.invariant
