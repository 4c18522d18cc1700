use Rattle.std.proofs.Common.{refl}
use Rattle.cert_text.specs.Texts.{IsEdgeEntry}
use Rattle.value_text.proofs.Forms.{all_taken, one_more}
use Rattle.cert_text.proofs.holding.edges_hold.Goals as goal

pub loop-edge-preserved : goal.loop-edge-preserved
loop-edge-preserved c = one_more IsEdgeEntry _ _ _ c.loop-edge-test.true c.edge-item.is c.loop-edge.invariant c.edge_holds.ensures

pub returns-clause-paths : goal.returns-clause-paths
returns-clause-paths c = (all_taken IsEdgeEntry _ _ c.loop-edge-test.false c.loop-edge.invariant).0 refl
