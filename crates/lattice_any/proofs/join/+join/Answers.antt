use Rattle.std.proofs.Common.{sym, ap, ◌∙◌}
use Rattle.lattice_any.specs.declared.any.AnyL.TheVariants as any
use Rattle.lattice_any.proofs.AtTypes.{item_listed, must_answer, flat_answer, some_item, table_joined, may_rising, may_joined, must_rising, map_entries, map_joined, some_pair, left_valid, right_valid, pair_joined}
use Rattle.lattice_any.proofs.Depths.{map_falls, left_falls, right_falls}
use Rattle.lattice_any.proofs.Steps.{rest_passed, less_step, equal_step, greater_step, left_ended, right_ended}
use Rattle.value_domains.specs.Domains.{IsValueOf, least_of, joined_of}
use Rattle.lattice_any.specs.Types.{domain_of_any}
use Rattle.lattice_any.proofs.join.+join.Goals as goal
use Rattle.lattice_any.proofs.join.+join.Goals.{join_entries-in_default, join_entries-in_default-2}

pub join_values-union-requires-clause-left : goal.join_values-union-requires-clause-left
join_values-union-requires-clause-left t c = may_rising _ _ _ _ c.in-May.is c.requires.left c.elems.ensures

pub join_values-union-requires-clause-right : goal.join_values-union-requires-clause-right
join_values-union-requires-clause-right t c = may_rising _ _ _ _ c.in-May.is c.requires.right c.elems-in-May.ensures

pub join_values-join_must-requires-clause-left : goal.join_values-join_must-requires-clause-left
join_values-join_must-requires-clause-left t c = must_rising _ _ _ c.in-Must.is c.requires.left

pub join_values-join_must-requires-clause-right : goal.join_values-join_must-requires-clause-right
join_values-join_must-requires-clause-right t c = must_rising _ _ _ c.in-Must.is c.requires.right

pub join_values-join_entries-requires : goal.join_values-join_entries-requires
join_values-join_entries-requires t c =
    let e = c.in-Map.is ∙ ap (any.Map c.in-Map.field-0) (sym c.get.ensures) in
    (map_falls _ _ _ t e c.decreases, (map_entries _ _ _ _ _ e c.requires.left c.entries.ensures, map_entries _ _ _ _ _ e c.requires.right c.entries-in-Map.ensures))

pub join_values-parts-requires : goal.join_values-parts-requires
join_values-parts-requires t c = some_pair _ _ _ _ c.in-Pair.is c.requires.left

pub join_values-parts-requires-in-Pair : goal.join_values-parts-requires-in-Pair
join_values-parts-requires-in-Pair t c = some_pair _ _ _ _ c.in-Pair.is c.requires.right

pub join_values-join_values-requires : goal.join_values-join_values-requires
join_values-join_values-requires t c =
    let e = c.in-Pair.is ∙ ap (λ l. any.Pair l c.in-Pair.right) (sym c.get-in-Pair.ensures) in
    (left_falls _ _ _ t e c.decreases, (left_valid _ _ _ _ _ e c.requires.left c.parts.ensures.left, left_valid _ _ _ _ _ e c.requires.right c.parts-in-Pair.ensures.left))

pub join_values-join_values-requires-in-Pair : goal.join_values-join_values-requires-in-Pair
join_values-join_values-requires-in-Pair t c =
    let e = c.in-Pair.is ∙ ap (any.Pair c.in-Pair.left) (sym c.get-in-Pair-2.ensures) in
    (right_falls _ _ _ t e c.decreases, (right_valid _ _ _ _ _ e c.requires.left c.parts.ensures.right, right_valid _ _ _ _ _ e c.requires.right c.parts-in-Pair.ensures.right))

pub join_values-returns-in_ok-union-in-May : goal.join_values-returns-in_ok-union-in-May
join_values-returns-in_ok-union-in-May t c = may_joined _ _ _ _ _ _ _ c.in-May.is c.elems.ensures c.elems-in-May.ensures c.in_ok-union-in-May.ensures

pub join_values-returns-in-Must : goal.join_values-returns-in-Must
join_values-returns-in-Must t c = must_answer _ _ _ _ c.join_must.result c.in-Must.is c.join_must.ensures

pub join_values-returns-in-Flat : goal.join_values-returns-in-Flat
join_values-returns-in-Flat t c = flat_answer _ _ _ _ c.join_flat.result c.in-Flat.is c.join_flat.ensures

pub join_values-returns-in_ok-joined-in-Map : goal.join_values-returns-in_ok-joined-in-Map
join_values-returns-in_ok-joined-in-Map t c =
    let e = c.in-Map.is ∙ ap (any.Map c.in-Map.field-0) (sym c.get.ensures) in
    map_joined _ _ _ _ _ _ _ _ e c.entries.ensures c.entries-in-Map.ensures c.in_ok-joined-in-Map.ensures

pub join_values-returns-in_ok-new-in-Pair-2 : goal.join_values-returns-in_ok-new-in-Pair-2
join_values-returns-in_ok-new-in-Pair-2 t c =
    let e = c.in-Pair.is ∙ ap (λ l. any.Pair l c.in-Pair.right) (sym c.get-in-Pair.ensures) ∙ ap (any.Pair c.get-in-Pair.result.now) (sym c.get-in-Pair-2.ensures) in
    pair_joined _ _ _ _ _ _ _ _ _ _ _ e c.parts.ensures.left c.parts.ensures.right c.parts-in-Pair.ensures.left c.parts-in-Pair.ensures.right
    (c.in_ok-new-in-Pair.ensures ∙ c.in_ok-first-in-Pair.ensures) (c.in_ok-new-in-Pair-2.ensures ∙ c.in_ok-second-in-Pair.ensures)

pub join_values-item-requires : goal.join_values-item-requires
join_values-item-requires t c = some_item _ _ _ c.in-Table.is c.requires.left

pub join_values-item-requires-in-Table : goal.join_values-item-requires-in-Table
join_values-item-requires-in-Table t c = some_item _ _ _ c.in-Table.is c.requires.right

pub join_values-join-requires-clause-left : goal.join_values-join-requires-clause-left
join_values-join-requires-clause-left t c = item_listed _ _ _ _ c.in-Table.is c.requires.left c.item.ensures

pub join_values-join-requires-clause-right : goal.join_values-join-requires-clause-right
join_values-join-requires-clause-right t c = item_listed _ _ _ _ c.in-Table.is c.requires.right c.item-in-Table.ensures

pub join_values-returns-in_ok-duplicate-in-Table : goal.join_values-returns-in_ok-duplicate-in-Table
join_values-returns-in_ok-duplicate-in-Table t c = table_joined _ _ _ _ _ _ _ _ c.in-Table.is c.item.ensures c.item-in-Table.ensures c.join.ensures c.in_ok-duplicate-in-Table.ensures

pub join_entries-loop-x-preserved-in_ok-push_copy-in-Less :
    goal.join_entries-loop-x-preserved-in_ok-push_copy-in-Less
join_entries-loop-x-preserved-in_ok-push_copy-in-Less t c =
    let m = c.loop-x.invariant in
    let s = c.in-Some-Some in
    record {
      left = rest_passed _ _ _ _ _ s.ensures.cases.0 m.left;
      right = m.right;
      whole = less_step (joined_of (domain_of_any c.args.values.now)) (IsValueOf (domain_of_any c.args.values.now)) (least_of (domain_of_any c.args.values.now)) _ _ _ _ _ _ _ _ _ s.ensures.cases.0 s.ensures'.cases.0 m.right c.in-Less.ensures c.in_ok-push_copy-in-Less.ensures m.whole;
    }

pub join_entries-loop-x-preserved-in_ok-push_joined-in-Equal :
    goal.join_entries-loop-x-preserved-in_ok-push_joined-in-Equal
join_entries-loop-x-preserved-in_ok-push_joined-in-Equal t c =
    let m = c.loop-x.invariant in
    let s = c.in-Some-Some in
    record {
      left = rest_passed _ _ _ _ _ s.ensures.cases.0 m.left;
      right = rest_passed _ _ _ _ _ s.ensures'.cases.0 m.right;
      whole = equal_step (joined_of (domain_of_any c.args.values.now)) (IsValueOf (domain_of_any c.args.values.now)) (least_of (domain_of_any c.args.values.now)) _ _ _ _ _ _ _ _ _ s.ensures.cases.0 s.ensures'.cases.0 m.right c.in-Equal.ensures c.in_ok-push_joined-in-Equal.ensures m.whole;
    }

pub join_entries-loop-x-preserved : goal.join_entries-loop-x-preserved
join_entries-loop-x-preserved t c =
    let m = c.loop-x.invariant in
    let s = c.in-Some-Some in
    record {
      left = m.left;
      right = rest_passed _ _ _ _ _ s.ensures'.cases.0 m.right;
      whole = greater_step (joined_of (domain_of_any c.args.values.now)) (IsValueOf (domain_of_any c.args.values.now)) (least_of (domain_of_any c.args.values.now)) _ _ _ _ _ _ _ _ _ s.ensures.cases.0 s.ensures'.cases.0 m.left m.right c.in-Greater.ensures c.in_ok-push_copy-in-Greater.ensures m.whole;
    }

pub join_entries-returns : goal.join_entries-returns
join_entries-returns t c =
    let m = c.loop-x.invariant in
    let t = domain_of_any c.args.values.now in
    elim c.match-split_first.branch [
      | join_entries-in_default w ↦ right_ended (joined_of t) (IsValueOf t) (least_of t) _ _ _ _ _ _ w.in_default.ensures'.cases m.whole c.in_ok-push_copies.ensures c.in_ok-push_copies-2.ensures
      | join_entries-in_default-2 w ↦ left_ended (joined_of t) (IsValueOf t) (least_of t) _ _ _ _ _ _ m.right w.in_default.ensures.cases m.whole c.in_ok-push_copies.ensures c.in_ok-push_copies-2.ensures
    ]
