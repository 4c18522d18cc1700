use Rattle.std.proofs.Common.{◌≡◌, ◌++◌, take}
use Rattle.std.specs.List.{flat_map}
use Rattle.flow_lines.specs.Lines.{node_line}
use Rattle.flow_lines.proofs.lines.push_nodes.Given as goal

abbrev pub invariant-loop-node : goal.invariant-loop-node
invariant-loop-node l = l.bytes.items ≡ l.fn.bytes.items ++ flat_map node_line (take l.node-index l.nodes)
