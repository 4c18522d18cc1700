use Rattle.std.proofs.Common.{sym, ap, ◌∙◌}
use Rattle.std.proofs.lemmas.Bool.{both_ways}
use Rattle.lattice_sets.proofs.MapMerges.{answer_no, answer_yes, iff_then}
use Rattle.lattice_any.specs.declared.any.AnyL.TheVariants as any
use Rattle.lattice_any.proofs.AtTypes.{item_listed, may_rising, must_rising, map_entries, some_item, some_pair, left_valid, right_valid}
use Rattle.lattice_any.proofs.Depths.{map_falls, left_falls, right_falls}
use Rattle.lattice_any.proofs.Orders.{may_below, must_below, flat_below, map_below, pair_below, table_below, both_answers, first_answer}
use Rattle.lattice_any.proofs.Steps.{rest_passed, below_less, above_at_key, below_at_key, below_past, below_at_end}
use Rattle.value_domains.specs.Domains.{IsValueOf, least_of, joined_of}
use Rattle.lattice_any.specs.Types.{domain_of_any}
use Rattle.lattice_any.proofs.order.+order.Goals as goal

pub is_below-includes-requires-clause-left : goal.is_below-includes-requires-clause-left
is_below-includes-requires-clause-left t c = may_rising _ _ _ _ c.in-May.is c.requires.right c.elems.ensures

pub is_below-includes-requires-clause-right : goal.is_below-includes-requires-clause-right
is_below-includes-requires-clause-right t c = may_rising _ _ _ _ c.in-May.is c.requires.left c.elems-in-May.ensures

pub is_below-is_below_must-requires-clause-left : goal.is_below-is_below_must-requires-clause-left
is_below-is_below_must-requires-clause-left t c = must_rising _ _ _ c.in-Must.is c.requires.left

pub is_below-is_below_must-requires-clause-right :
    goal.is_below-is_below_must-requires-clause-right
is_below-is_below_must-requires-clause-right t c = must_rising _ _ _ c.in-Must.is c.requires.right

pub is_below-are_below-requires : goal.is_below-are_below-requires
is_below-are_below-requires t c =
    let e = c.in-Map.is ∙ ap (any.Map c.in-Map.field-0) (sym c.get.ensures) in
    (map_falls _ _ _ t e c.decreases, (map_entries _ _ _ _ _ e c.requires.left c.entries.ensures, map_entries _ _ _ _ _ e c.requires.right c.entries-in-Map.ensures))

pub is_below-parts-requires : goal.is_below-parts-requires
is_below-parts-requires t c = some_pair _ _ _ _ c.in-Pair.is c.requires.left

pub is_below-parts-requires-in-Pair : goal.is_below-parts-requires-in-Pair
is_below-parts-requires-in-Pair t c = some_pair _ _ _ _ c.in-Pair.is c.requires.right

pub is_below-is_below-requires : goal.is_below-is_below-requires
is_below-is_below-requires t c =
    let e = c.in-Pair.is ∙ ap (λ l. any.Pair l c.in-Pair.right) (sym c.get-in-Pair.ensures) in
    (left_falls _ _ _ t e c.decreases, (left_valid _ _ _ _ _ e c.requires.left c.parts.ensures.left, left_valid _ _ _ _ _ e c.requires.right c.parts-in-Pair.ensures.left))

pub is_below-is_below-requires-then-is_below : goal.is_below-is_below-requires-then-is_below
is_below-is_below-requires-then-is_below t c =
    let e = c.in-Pair.is ∙ ap (any.Pair c.in-Pair.left) (sym c.get-then-is_below.ensures) in
    (right_falls _ _ _ t e c.decreases, (right_valid _ _ _ _ _ e c.requires.left c.parts.ensures.right, right_valid _ _ _ _ _ e c.requires.right c.parts-in-Pair.ensures.right))

pub is_below-item-requires : goal.is_below-item-requires
is_below-item-requires t c = some_item _ _ _ c.in-Table.is c.requires.left

pub is_below-item-requires-in-Table : goal.is_below-item-requires-in-Table
is_below-item-requires-in-Table t c = some_item _ _ _ c.in-Table.is c.requires.right

pub is_below-is_below-requires-in-Table-clause-left : goal.is_below-is_below-requires-in-Table-clause-left
is_below-is_below-requires-in-Table-clause-left t c = item_listed _ _ _ _ c.in-Table.is c.requires.left c.item.ensures

pub is_below-is_below-requires-in-Table-clause-right : goal.is_below-is_below-requires-in-Table-clause-right
is_below-is_below-requires-in-Table-clause-right t c = item_listed _ _ _ _ c.in-Table.is c.requires.right c.item-in-Table.ensures

pub is_below-returns-in-Table : goal.is_below-returns-in-Table
is_below-returns-in-Table t c = table_below _ _ _ c.requires.left c.requires.right _ _ _ _ c.in-Table.is c.item.ensures c.item-in-Table.ensures c.is_below-in-Table.ensures

pub is_below-returns-in-May : goal.is_below-returns-in-May
is_below-returns-in-May t c = may_below _ _ _ c.requires.left c.requires.right _ _ _ _ c.in-May.is c.elems.ensures c.elems-in-May.ensures c.includes.ensures

pub is_below-returns-in-Must : goal.is_below-returns-in-Must
is_below-returns-in-Must t c = must_below _ _ _ c.requires.left c.requires.right _ _ c.in-Must.is c.is_below_must.ensures

pub is_below-returns-in-Flat : goal.is_below-returns-in-Flat
is_below-returns-in-Flat t c = flat_below _ _ _ c.requires.left c.requires.right _ _ c.in-Flat.is c.is_below_flat.ensures

pub is_below-returns-in-Map : goal.is_below-returns-in-Map
is_below-returns-in-Map t c =
    let e = c.in-Map.is ∙ ap (any.Map c.in-Map.field-0) (sym c.get.ensures) in
    map_below _ _ _ c.requires.left c.requires.right _ _ _ _ _ e c.entries.ensures c.entries-in-Map.ensures c.are_below.ensures

pub is_below-returns-then-is_below : goal.is_below-returns-then-is_below
is_below-returns-then-is_below t c =
    let e = c.in-Pair.is ∙ ap (λ l. any.Pair l c.in-Pair.right) (sym c.get-in-Pair.ensures) ∙ ap (any.Pair c.get-in-Pair.result.now) (sym c.get-then-is_below.ensures) in
    both_answers _ (c.is_below.ensures.0 c.if-is_below.true) c.is_below-then-is_below.ensures
    (pair_below _ _ _ c.requires.left c.requires.right _ _ _ _ _ _ e c.parts.ensures.left c.parts.ensures.right c.parts-in-Pair.ensures.left c.parts-in-Pair.ensures.right)

pub is_below-returns-else-is_below : goal.is_below-returns-else-is_below
is_below-returns-else-is_below t c =
    let e = c.in-Pair.is ∙ ap (λ l. any.Pair l c.in-Pair.right) (sym c.get-in-Pair.ensures) in
    first_answer _ c.if-is_below.false c.is_below.ensures
    (pair_below _ _ _ c.requires.left c.requires.right _ _ _ _ _ _ e c.parts.ensures.left c.parts.ensures.right c.parts-in-Pair.ensures.left c.parts-in-Pair.ensures.right)

pub are_below-returns-in-Less : goal.are_below-returns-in-Less
are_below-returns-in-Less t c =
    let m = c.loop-x.invariant in
    let k = domain_of_any c.args.values.now in
    answer_no m.answer (below_less (joined_of k) (IsValueOf k) (least_of k) _ _ _ _ _ _ c.in-Some.ensures.cases.0 c.in-Some-split_first.ensures.cases.0 m.right c.in-Less.ensures)

pub are_below-returns-then-not-is_below : goal.are_below-returns-then-not-is_below
are_below-returns-then-not-is_below t c =
    let m = c.loop-x.invariant in
    let k = domain_of_any c.args.values.now in
    answer_no m.answer (above_at_key (joined_of k) (IsValueOf k) (least_of k) _ _ _ _ _ _ c.in-Some.ensures.cases.0 c.in-Some-split_first.ensures.cases.0 m.right c.in-Equal.ensures (λ j. both_ways _ c.if-not-is_below.true (c.is_below.ensures.1 j)))

pub are_below-loop-x-preserved-in-Equal : goal.are_below-loop-x-preserved-in-Equal
are_below-loop-x-preserved-in-Equal t c =
    let m = c.loop-x.invariant in
    let k = domain_of_any c.args.values.now in
    let a = c.in-Some.ensures.cases.0 in
    let b = c.in-Some-split_first.ensures.cases.0 in
    record {
      left = rest_passed _ _ _ _ _ a m.left;
      right = rest_passed _ _ _ _ _ b m.right;
      answer = iff_then (below_at_key (joined_of k) (IsValueOf k) (least_of k) _ _ _ _ _ _ a b m.right c.in-Equal.ensures (c.is_below.ensures.0 c.if-not-is_below.false)) m.answer;
    }

pub are_below-loop-x-preserved : goal.are_below-loop-x-preserved
are_below-loop-x-preserved t c =
    let m = c.loop-x.invariant in
    let k = domain_of_any c.args.values.now in
    let a = c.in-Some.ensures.cases.0 in
    let b = c.in-Some-split_first.ensures.cases.0 in
    record {
      left = m.left;
      right = rest_passed _ _ _ _ _ b m.right;
      answer = iff_then (below_past (joined_of k) (IsValueOf k) (least_of k) _ _ _ _ _ _ a b m.left m.right c.in-Greater.ensures) m.answer;
    }

pub are_below-returns : goal.are_below-returns
are_below-returns t c =
    let m = c.loop-x.invariant in
    let k = domain_of_any c.args.values.now in
    answer_yes m.answer (below_at_end (joined_of k) (IsValueOf k) (least_of k) _ _ m.right c.in_default.ensures.cases)
