use Rattle.value_text.specs.Texts.{HasElemText, HasValueText}
use Rattle.value_text.proofs.Forms.{all_taken, one_more}
use Rattle.value_text.proofs.form.+form.Goals as goal

pub entries_have_text-loop-entry-preserved : goal.entries_have_text-loop-entry-preserved
entries_have_text-loop-entry-preserved t c =
    one_more (λ entry. HasElemText c.args.nesting entry.key × HasValueText c.args.nesting entry.value) _ _ _ c.loop-entry-test.true c.entry-item.is c.loop-entry.invariant
    (c.elem_has_text.ensures.0 c.if-not-elem_has_text.false, c.value_has_text.ensures.0 c.if-not-value_has_text.false)

pub entries_have_text-returns : goal.entries_have_text-returns
entries_have_text-returns t c = all_taken (λ entry. HasElemText c.args.nesting entry.key × HasValueText c.args.nesting entry.value) _ _ c.loop-entry-test.false c.loop-entry.invariant
