use Rattle.std.proofs.Common.{arith, sym}
use Rattle.flow_match.proofs.Sizes.{at_le}
use Rattle.flow_match.proofs.hits.matched_at.Goals as goal

pub matched_by-requires-clause-small : goal.matched_by-requires-clause-small
matched_by-requires-clause-small g c = omega (arith, at_le c.args.tree.now c.args.path.now c.in-Some.term.now (sym c.in-Some.ensures))
