use Rattle.typed_bodies.proofs.Anywhere.{makes_no_others}
use Rattle.typed_bodies.proofs.expressions_make_no_others.Goals as goal

pub returns : goal.returns
returns c = makes_no_others
