use Rattle.std.proofs.Common.{◌≡◌, ◌∙◌, sym, ap, nat_eq, true, ℕ, Option}
use Rattle.std.specs.Prelude.{unwrap_or}
use Rattle.list_theory.specs.Lists.{has, without}
use Rattle.index_lists.specs.Records.{all_in}
use Rattle.index_lists.proofs.RecordLemmas.{entries_removed, list_in_same, numbers_are, ordered_removed, pair_is, there_is}
use Rattle.index_lists.proofs.records.remove_pair.Goals as goal

pub remove-requires : goal.remove-requires
remove-requires c = ap (λ xs. has nat_eq xs c.args.number) (sym (numbers_are c.args.slab.now c.args.order.now)) ∙ c.requires.there

pub remove-requires-2 : goal.remove-requires-2
remove-requires-2 c =
    let there : has nat_eq (all_in c.args.order.now) c.args.number ≡ true = ap (λ xs. has nat_eq xs c.args.number) (sym (numbers_are c.args.slab.now c.args.order.now)) ∙ c.requires.there in
    sym (c.requires.ordered.present c.args.number) ∙ there

pub returns-clause-value : goal.returns-clause-value
returns-clause-value c = sym (pair_is c.args.slab.now c.args.order.now c.args.number c.requires.ordered ∙ ap (λ (o : Option (ℕ × ℕ)). unwrap_or {T = ℕ × ℕ} o (0, 0)) c.remove-2.ensures.value)

pub returns-clause-ordered : goal.returns-clause-ordered
returns-clause-ordered c =
    let there : has nat_eq (all_in c.args.order.now) c.args.number ≡ true = ap (λ xs. has nat_eq xs c.args.number) (sym (numbers_are c.args.slab.now c.args.order.now)) ∙ c.requires.there in
    ordered_removed _ _ _ _ c.args.number c.requires.ordered c.remove-2.ensures.updates (there_is c.args.order.now 0 c.args.number there) c.remove.ensures

pub returns-clause-entries : goal.returns-clause-entries
returns-clause-entries c =
    let there : has nat_eq (all_in c.args.order.now) c.args.number ≡ true = ap (λ xs. has nat_eq xs c.args.number) (sym (numbers_are c.args.slab.now c.args.order.now)) ∙ c.requires.there in
    entries_removed c.args.slab.now c.remove-2.new.self c.args.order.now c.remove.new.self c.args.number c.remove-2.ensures.updates
    (ap all_in c.remove.ensures ∙ list_in_same c.args.order.now 0 (without nat_eq (all_in c.args.order.now) c.args.number) (there_is c.args.order.now 0 c.args.number there))
