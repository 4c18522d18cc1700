use Rattle.expr_typing.proofs.Laws.{faultless_have_types}
use Rattle.expr_typing.proofs.faultless_expressions_have_types.Goals as goal

pub returns : goal.returns
returns c = faultless_have_types
