use Rattle.std.proofs.Common.{◌≡◌, ◌++◌, take, string_bytes}
use Rattle.std.specs.List.{flat_map}
use Rattle.flow_cli.specs.GraphText.{edge_line}
use Rattle.flow_cli.proofs.print.push_edges.Given as goal

abbrev pub invariant-loop-edge : goal.invariant-loop-edge
invariant-loop-edge l = string_bytes l.text ≡ string_bytes l.fn.text ++ flat_map edge_line (take l.edge-index l.edges)
