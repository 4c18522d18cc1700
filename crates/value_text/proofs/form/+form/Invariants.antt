use Rattle.std.specs.Prelude.{All}
use Rattle.std.proofs.Common.{◌+◌, ◌*◌, take}
use Rattle.value_text.specs.Texts.{HasElemText, HasValueText}
use Rattle.value_text.proofs.form.+form.Given as goal

abbrev pub decreases-value_has_text : goal.decreases-value_has_text
decreases-value_has_text l = 3 * l.nesting

abbrev pub decreases-parts_have_text : goal.decreases-parts_have_text
decreases-parts_have_text l = 3 * l.nesting + 2

abbrev pub decreases-entries_have_text : goal.decreases-entries_have_text
decreases-entries_have_text l = 3 * l.nesting + 1

abbrev pub invariant-entries_have_text-loop-entry : goal.invariant-entries_have_text-loop-entry
invariant-entries_have_text-loop-entry l = All (λ entry. HasElemText l.nesting entry.key × HasValueText l.nesting entry.value) (take l.entry-index l.entries)
