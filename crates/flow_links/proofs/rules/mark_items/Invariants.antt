use Rattle.std.proofs.Common.{take}
use Rattle.std.specs.List.{list_any}
use Rattle.flow_syntax.specs.Control.{enters_argument}
use Rattle.flow_links.specs.inner.Marks.{Marks}
use Rattle.flow_links.proofs.rules.mark_items.Given as goal

abbrev pub invariant-loop-item : goal.invariant-loop-item
invariant-loop-item l = Marks l.fn.marks.items l.marks.items (λ n. list_any (λ it. enters_argument l.rule n it.kind) (take l.item-index l.items))
