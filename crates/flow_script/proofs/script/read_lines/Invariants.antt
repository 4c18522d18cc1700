use Rattle.std.proofs.Common.{◌≡◌, length}
use Rattle.std.specs.Str.Lines.{lines}
use Rattle.flow_script.proofs.Reading.{AreRead}
use Rattle.flow_script.proofs.script.read_lines.Given as goal

abbrev pub invariant-loop-line : goal.invariant-loop-line
invariant-loop-line l = (l.number ≡ length l.yielded) × AreRead l.number (lines l.fn.text) l.script.items
