use Rattle.std.proofs.Common.{[], ◌∷◌, ◌++◌, ap, sym, ◌∙◌}
use Rattle.tree_system.proofs.TableFacts.{range_next}
use Rattle.tree_system.proofs.rows.numbers_below.Goals as goal

pub loop-number-preserved : goal.loop-number-preserved
loop-number-preserved c = c.in_ok-push.ensures.ok ∙ ap (λ xs. xs ++ c.loop-number.number ∷ []) c.loop-number.invariant ∙ sym (range_next c.loop-number.number)
