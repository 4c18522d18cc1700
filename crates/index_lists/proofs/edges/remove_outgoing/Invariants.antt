use Rattle.std.proofs.Common.{◌≡◌, ◌≤◌, length, not}
use Rattle.std.specs.Prelude.{filter}
use Rattle.linked_lists.specs.Chains.{list_in}
use Rattle.index_lists.specs.Edges.{AreEdges, leaves, spare_of}
use Rattle.index_lists.proofs.edges.remove_outgoing.Given as goal

abbrev pub invariant-loop-edge : goal.invariant-loop-edge
invariant-loop-edge l = record {
  edges : AreEdges l.records.entries l.outgoing l.incoming;
  rest : filter (λ e. not (leaves l.node e)) l.records.entries ≡ filter (λ e. not (leaves l.node e)) l.initial.records.entries;
  spare : spare_of l.initial.records l.initial.outgoing l.initial.incoming ≤ spare_of l.records l.outgoing l.incoming;
  nodes : length l.outgoing.lists ≡ length l.initial.outgoing.lists;
}

abbrev pub decreases-loop-edge : goal.decreases-loop-edge
decreases-loop-edge l = length (list_in l.outgoing l.node)
