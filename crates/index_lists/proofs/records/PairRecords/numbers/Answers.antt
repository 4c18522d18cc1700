use Rattle.std.proofs.Common.{◌∙◌, sym, ap, nat_eq}
use Rattle.list_theory.specs.Lists.{distinct}
use Rattle.index_lists.specs.Records.{Records, numbers}
use Rattle.index_lists.proofs.RecordLemmas.{numbers_are, once_is}
use Rattle.index_lists.proofs.records.PairRecords.numbers.Goals as goal

pub returns-clause-numbers : goal.returns-clause-numbers
returns-clause-numbers c = c.iter.ensures.items ∙ sym (numbers_are c.self.inside.slab c.self.inside.order) ∙ ap (λ (r : Records). numbers r.entries) c.self.view_is

pub returns-clause-once : goal.returns-clause-once
returns-clause-once c = ap (λ (r : Records). distinct nat_eq (numbers r.entries)) (sym c.self.view_is) ∙ once_is c.self.inside.slab c.self.inside.order c.self.invariant
