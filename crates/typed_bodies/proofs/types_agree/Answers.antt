use Rattle.typed_bodies.proofs.Good.{agree}
use Rattle.typed_bodies.proofs.types_agree.Goals as goal

pub returns : goal.returns
returns c = agree
