use Rattle.value_text.proofs.ValueTexts.{one_value}
use Rattle.value_text.proofs.laws.texts_have_one_value.Goals as goal

pub returns : goal.returns
returns c = one_value
