use Rattle.std.proofs.Common.{◌≡◌, ◌∙◌, [], sym, get_or}
use Rattle.std.specs.Prelude.{nat_eq}
use Rattle.std.proofs.lemmas.List.{get_or_default}
use Rattle.list_theory.specs.Lists.{has}
use Rattle.index_tables.specs.inner.Gained.{gained}
use Rattle.index_tables.proofs.TurnLemmas.{filter_next}
use Rattle.index_tables.proofs.turn.turned.Goals as goal

pub loop-number-preserved : goal.loop-number-preserved
loop-number-preserved c = (
  c.in_ok-add_to_each.ensures.len ∙ c.loop-number.invariant.0,
  λ u below.
      let row : c.as_slice.result.now ≡ get_or c.args.rows.now c.loop-number.number [] =
      c.as_slice.ensures ∙ c.index-rows-number.is ∙ get_or_default c.args.rows.now c.loop-number.number c.index-rows-number.result [] c.loop-number-test.true in
      c.in_ok-add_to_each.ensures.each u ∙ (λ i. gained (c.loop-number.invariant.1 u below i) (has nat_eq (row i) u) c.loop-number.number)
      ∙ sym (filter_next (λ k. has nat_eq (get_or c.args.rows.now k []) u) c.loop-number.number),
)
