use Rattle.std.proofs.Common.{arith, sym}
use Rattle.flow_match.proofs.Sizes.{at_le}
use Rattle.flow_match.proofs.bind.matches.Goals as goal

pub bindings_of-requires : goal.bindings_of-requires
bindings_of-requires c = omega (arith, at_le c.args.tree.now c.args.path.now c.in-Some.term.now (sym c.in-Some.ensures))
