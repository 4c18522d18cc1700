use Rattle.std.proofs.Common.{◌≡◌, ◌≤◌, ◌-◌, vec_len}
use Rattle.flow_io.proofs.Fronts.{IsFrontAt}
use Rattle.flow_io.proofs.reading.read_whole.Given as goal

abbrev pub invariant-loop-content : goal.invariant-loop-content
invariant-loop-content g l =
    (vec_len l.content ≤ l.limit)
    × IsFrontAt (g.F.Folder.held l.initial.folder) l.name l.content.items
    × (g.F.Folder.held l.folder ≡ g.F.Folder.held l.initial.folder)
    × (g.F.Folder.faults l.initial.folder ≤ g.F.Folder.faults l.folder)

abbrev pub decreases-loop-content : goal.decreases-loop-content
decreases-loop-content g l = l.limit - vec_len l.content
