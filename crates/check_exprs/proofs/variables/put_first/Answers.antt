use Rattle.std.proofs.Common.{List, ℕ, ap, sym, ◌∙◌}
use Rattle.std.specs.Prelude.{◌==◌}
use Rattle.std.specs.Cmp.Lexicographic.{pointwise}
use Rattle.indexmap.specs.IndexMap.{insert_entry}
use Rattle.check_base.proofs.TableLemmas.{none_from_is_some}
use Rattle.check_exprs.proofs.Finding.{number_in-insert}
use Rattle.check_exprs.proofs.variables.put_first.Goals as goal

pub returns-in_ok-insert : goal.returns-in_ok-insert
returns-in_ok-insert c = λ x.
    number_in-insert c.args.numbers.now c.insert.new.self (pointwise ◌==◌) c.args.name.now c.args.number (none_from_is_some _ (sym c.contains_key.ensures ∙ c.if-not-contains_key.true))
    (c.in_ok-insert.ensures.entries ∙ ap (λ (k : List ℕ). insert_entry (pointwise ◌==◌) c.args.numbers.now.entries k c.args.number) c.in_ok-key.ensures) x
