use Rattle.std.proofs.lemmas.List.{map-set}
use Rattle.flow_syntax.specs.Types.{typing_of}
use Rattle.check_exprs.proofs.notes.set_type.Goals as goal

pub returns : goal.returns
returns c = map-set typing_of c.args.types.now.items c.args.at c.args.typing
