use Rattle.cert_text.specs.Texts.{value_cmp}
use Rattle.cert_text.proofs.Moving.{tested}
use Rattle.cert_text.proofs.reader.value_is_above.Goals as goal

pub returns-in-Some : goal.returns-in-Some
returns-in-Some c = tested value_cmp c.args.values.now c.args.valued.now c.in-Some.last.now c.is_below.result c.in-Some.ensures.value c.is_below.ensures
