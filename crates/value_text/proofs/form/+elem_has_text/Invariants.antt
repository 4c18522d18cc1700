use Rattle.value_text.proofs.form.+elem_has_text.Given as goal

abbrev pub decreases-elem_has_text : goal.decreases-elem_has_text
decreases-elem_has_text l = l.nesting
