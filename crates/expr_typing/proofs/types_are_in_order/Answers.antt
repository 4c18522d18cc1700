use Rattle.expr_typing.proofs.Order.{types_in_order}
use Rattle.expr_typing.proofs.types_are_in_order.Goals as goal

pub returns : goal.returns
returns c = types_in_order
