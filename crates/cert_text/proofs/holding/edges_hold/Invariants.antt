use Rattle.std.specs.Prelude.{All}
use Rattle.std.proofs.Common.{take}
use Rattle.cert_text.specs.Texts.{IsEdgeEntry}
use Rattle.cert_text.proofs.holding.edges_hold.Given as goal

abbrev pub invariant-loop-edge : goal.invariant-loop-edge
invariant-loop-edge l = All IsEdgeEntry (take l.edge-index l.edges)
