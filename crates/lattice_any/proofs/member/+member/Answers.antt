use Rattle.std.proofs.Common.{refl, sym, ap, ◌∙◌}
use Rattle.flow_term.specs.declared.value.Value.TheVariants as value
use Rattle.lattice_any.specs.declared.any.AnyL.TheVariants as any
use Rattle.lattice_any.proofs.Members.{all_taken, map_answer, one_more, may_member, must_member, flat_member, keys_above, keys_below, map_member, no_answer, no_map, pair_member, no_pair, table_member}
use Rattle.lattice_any.proofs.Orders.{both_answers, first_answer}
use Rattle.std.proofs.lemmas.Bool.{both_ways}
use Rattle.lattice_any.specs.Members.{IsKeptIn}
use Rattle.lattice_any.specs.Types.{domain_of_any}
use Rattle.lattice_any.proofs.member.+member.Goals as goal
use Rattle.lattice_any.proofs.member.+member.Goals.{is_map-then-keys_rise, is_map-else-keys_rise}

pub is_value-returns-in-May : goal.is_value-returns-in-May
is_value-returns-in-May t c = may_member _ _ _ _ c.in-May.is c.is_may.ensures

pub is_value-returns-in-Must : goal.is_value-returns-in-Must
is_value-returns-in-Must t c = must_member _ _ _ _ c.in-Must.is c.is_must.ensures

pub is_value-returns-in-Flat : goal.is_value-returns-in-Flat
is_value-returns-in-Flat t c = flat_member _ _ _ _ c.in-Flat.is c.is_flat.ensures

pub is_value-returns-in-Map-value : goal.is_value-returns-in-Map-value
is_value-returns-in-Map-value t c =
    let e = c.in-Map.is ∙ ap (any.Map c.in-Map.sort) (sym c.get.ensures) in
    map_member _ _ _ _ _ _ _ e c.in-Map-value.is c.as_slice.ensures c.is_map.ensures

pub is_value-returns-in_default : goal.is_value-returns-in_default
is_value-returns-in_default t c = no_map _ _ _ _ c.in-Map.is c.in_default.not-Map

pub is_value-returns-then-is_value : goal.is_value-returns-then-is_value
is_value-returns-then-is_value t c =
    let e = c.in-Pair.is ∙ ap (λ l. any.Pair l c.in-Pair.right) (sym c.get-in-Pair-value.ensures) ∙ ap (any.Pair c.get-in-Pair-value.result.now) (sym c.get-then-is_value.ensures) in
    let f = c.in-Pair-value.is ∙ ap (λ v. value.Pair v c.in-Pair-value.b) (sym c.get-in-Pair-value-2.ensures) ∙ ap (value.Pair c.get-in-Pair-value-2.result.now) (sym c.get-then-is_value-2.ensures) in
    both_answers _ (c.is_value.ensures.0 c.if-is_value.true) c.is_value-then-is_value.ensures (pair_member _ _ _ _ _ _ e f)

pub is_value-returns-else-is_value : goal.is_value-returns-else-is_value
is_value-returns-else-is_value t c =
    let e = c.in-Pair.is ∙ ap (λ l. any.Pair l c.in-Pair.right) (sym c.get-in-Pair-value.ensures) in
    let f = c.in-Pair-value.is ∙ ap (λ v. value.Pair v c.in-Pair-value.b) (sym c.get-in-Pair-value-2.ensures) in
    first_answer _ c.if-is_value.false c.is_value.ensures (pair_member _ _ _ _ _ _ e f)

pub is_value-returns-in_default-value : goal.is_value-returns-in_default-value
is_value-returns-in_default-value t c = no_pair _ _ _ _ c.in-Pair.is c.in_default-value.not-Pair

pub is_value-returns-in-Table : goal.is_value-returns-in-Table
is_value-returns-in-Table t c = table_member _ _ _ _ c.in-Table.is c.is_listed.ensures

pub is_map-returns-then-keys_have_sort : goal.is_map-returns-then-keys_have_sort
is_map-returns-then-keys_have_sort t c = elim c.if-keys_rise.branch [
  | is_map-then-keys_rise w ↦ map_answer _ _ _ _ _ (keys_above _ (c.keys_rise.ensures.0 w.if-keys_rise.true)) (w.keys_have_sort.ensures.0 (sym w.value-is ∙ c.if-keys_have_sort.true)) c.are_kept.ensures
  | is_map-else-keys_rise w ↦ absurd (both_ways _ (w.value-is ∙ w.if-keys_rise.false) c.if-keys_have_sort.true)
]

pub is_map-returns-else-keys_have_sort : goal.is_map-returns-else-keys_have_sort
is_map-returns-else-keys_have_sort t c = no_answer _ _ c.if-keys_have_sort.false (λ m. elim c.if-keys_rise.branch [
  | is_map-then-keys_rise w ↦ both_ways _ (sym w.value-is ∙ c.if-keys_have_sort.false) (w.keys_have_sort.ensures.1 m.sorts)
  | is_map-else-keys_rise w ↦ both_ways _ w.if-keys_rise.false (c.keys_rise.ensures.1 (keys_below _ m.rising))
])

pub are_kept-loop-entry-preserved : goal.are_kept-loop-entry-preserved
are_kept-loop-entry-preserved t c =
    one_more (λ e. IsKeptIn (domain_of_any c.args.values.now) e.value) _ _ _ c.loop-entry-test.true c.entry-item.is c.loop-entry.invariant
    (c.is_value.ensures.0 c.if-not-is_value.false, λ j. both_ways _ c.if-is_least.false (c.is_least.ensures.1 j))

pub are_kept-returns : goal.are_kept-returns
are_kept-returns t c =
    (λ h. all_taken (λ e. IsKeptIn (domain_of_any c.args.values.now) e.value) _ _ c.loop-entry-test.false c.loop-entry.invariant, λ h. refl)
