use Rattle.value_text.specs.Texts.{elem_text}
use Rattle.value_text.proofs.Writing.{list_more}
use Rattle.value_text.proofs.writer.push_elems.Goals as goal

pub loop-at-preserved : goal.loop-at-preserved
loop-at-preserved c = list_more elem_text c.args.elems.now c.loop-at.at c.index-elems-at.result _ _ _ _ c.loop-at-test.true c.index-elems-at.is c.loop-at.invariant c.in_ok-push_separator.ensures c.in_ok-push_elem.ensures
