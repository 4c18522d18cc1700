use Rattle.std.proofs.Common.{◌≡◌, None, take}
use Rattle.flow_io.specs.Entries.{first_content}
use Rattle.flow_io.proofs.memory_folder.place_of.Given as goal

abbrev pub invariant-loop-i : goal.invariant-loop-i
invariant-loop-i l = first_content (take l.i l.files) l.name ≡ None
