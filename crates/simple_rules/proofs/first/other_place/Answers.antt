use Rattle.simple_rules.proofs.PlaceLemmas.{simple_of_form}
use Rattle.simple_rules.proofs.first.other_place.Goals as goal

pub returns-in-Fixed : goal.returns-in-Fixed
returns-in-Fixed c = λ n h. h.0 (simple_of_form c.args.body.now c.form_of.result c.form_of.ensures c.in-Fixed.is)
