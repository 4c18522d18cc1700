use Rattle.std.proofs.Common.{arith, ◌<◌, length}
use Rattle.index_tables.proofs.TurnLemmas.{not_before, stands_before}
use Rattle.index_tables.proofs.turn.is_before.Goals as goal

pub returns-then-places-earlier : goal.returns-then-places-earlier
returns-then-places-earlier c = stands_before c.args.places.now c.args.at c.loop-earlier.earlier c.requires c.loop-earlier-test.true c.if-places-earlier.true

pub loop-earlier-preserved : goal.loop-earlier-preserved
loop-earlier-preserved c =
    let within : c.loop-earlier.earlier < length c.args.places.now = omega (arith, c.loop-earlier-test.true, c.requires) in
    not_before c.args.places.now c.args.at c.loop-earlier.earlier within c.loop-earlier.invariant c.if-places-earlier.false
