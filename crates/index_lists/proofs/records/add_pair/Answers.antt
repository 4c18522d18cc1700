use Rattle.std.proofs.Common.{◌<◌, arith, ◌∙◌, ap, length, ◌++◌, ◌∷◌, [], nat_eq}
use Rattle.list_theory.specs.Lists.{has}
use Rattle.index_lists.specs.Records.{all_in}
use Rattle.index_lists.proofs.RecordLemmas.{entries_added, list_in_same, new_absent, new_nowhere, numbers_are, ordered_added}
use Rattle.index_lists.proofs.records.add_pair.Goals as goal

pub push-requires-clause-absent : goal.push-requires-clause-absent
push-requires-clause-absent c = λ k. new_absent _ _ _ k c.requires.ordered c.insert_reserved-number.ensures.was_vacant

pub returns-clause-ordered : goal.returns-clause-ordered
returns-clause-ordered c =
    let some : 0 < length c.args.order.now.lists = c.requires.ordered.listed (omega (arith, c.requires.linked, c.insert_reserved-number.ensures.key_in_range, c.insert_reserved-number.ensures.capacity)) in
    ordered_added _ _ _ _ c.insert_reserved-number.result c.args.pair c.requires.ordered c.insert_reserved-number.ensures.was_vacant c.insert_reserved-number.ensures.updates some c.push.ensures

pub returns-clause-entries : goal.returns-clause-entries
returns-clause-entries c =
    let some : 0 < length c.args.order.now.lists = c.requires.ordered.listed (omega (arith, c.requires.linked, c.insert_reserved-number.ensures.key_in_range, c.insert_reserved-number.ensures.capacity)) in
    entries_added c.args.slab.now c.insert_reserved-number.new.self c.args.order.now c.push.new.self c.insert_reserved-number.result c.args.pair (new_nowhere _ _ _ c.requires.ordered c.insert_reserved-number.ensures.was_vacant) c.insert_reserved-number.ensures.updates
    (ap all_in c.push.ensures ∙ list_in_same c.args.order.now 0 (all_in c.args.order.now ++ c.insert_reserved-number.result ∷ []) some)

pub returns-clause-fresh : goal.returns-clause-fresh
returns-clause-fresh c = ap (λ xs. has nat_eq xs c.insert_reserved-number.result) (numbers_are c.args.slab.now c.args.order.now) ∙ new_nowhere _ _ _ c.requires.ordered c.insert_reserved-number.ensures.was_vacant
