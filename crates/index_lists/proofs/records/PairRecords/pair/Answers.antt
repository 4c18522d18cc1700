use Rattle.std.proofs.Common.{◌∙◌, sym, ap, ℕ, Option}
use Rattle.std.specs.Prelude.{unwrap_or}
use Rattle.index_lists.specs.Records.{Records, pair_of}
use Rattle.index_lists.proofs.RecordLemmas.{pair_is}
use Rattle.index_lists.proofs.records.PairRecords.pair.Goals as goal

pub returns : goal.returns
returns c =
    c.unwrap_or.ensures ∙ ap (λ (o : Option (ℕ × ℕ)). unwrap_or {T = ℕ × ℕ} o (0, 0)) (c.copied.ensures ∙ c.get.ensures)
    ∙ sym (pair_is c.self.inside.slab c.self.inside.order c.args.number c.self.invariant) ∙ ap (λ (r : Records). pair_of r.entries c.args.number) c.self.view_is
