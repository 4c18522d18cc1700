use Rattle.std.proofs.Common.{◌≡◌, ◌++◌, take}
use Rattle.std.specs.List.{flat_map}
use Rattle.flow_lines.specs.Lines.{edge_line}
use Rattle.flow_lines.proofs.lines.push_edges.Given as goal

abbrev pub invariant-loop-edge : goal.invariant-loop-edge
invariant-loop-edge l = l.bytes.items ≡ l.fn.bytes.items ++ flat_map edge_line (take l.edge-index l.edges)
