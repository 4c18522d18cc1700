use Rattle.std.proofs.Common.{sym, ap, ◌∙◌}
use Rattle.std.proofs.lemmas.List.{get_or_default}
use Rattle.tree_constraints.specs.declared.constraint.Constraint.{Constraint}
use Rattle.tree_system.specs.Tables.{no_constraint}
use Rattle.tree_system.proofs.rows.reads_of.Goals as goal

pub row_of-requires-clause-there : goal.row_of-requires-clause-there
row_of-requires-clause-there g c = λ i e.
    c.requires.there c.loop-at.at i c.loop-at-test.true
    (sym (ap (λ (d : Constraint). d.rule) (get_or_default c.args.constraints.now c.loop-at.at c.index-constraints-at.result no_constraint c.loop-at-test.true)) ∙ e)
