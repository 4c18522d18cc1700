use Rattle.std.proofs.Common.{List, ℕ, ap, sym, ◌∙◌, bytes_eq}
use Rattle.check_base.specs.Tables.{or_where, value_in}
use Rattle.check_base.proofs.TableLemmas.{value_in-insert, none_from_is_some}
use Rattle.check_base.proofs.table.put_first.Goals as goal

pub returns-in_ok-insert : goal.returns-in_ok-insert
returns-in_ok-insert g c = λ x.
    value_in-insert c.args.table.now c.insert.new.self _ c.as_str-text.result c.args.value (none_from_is_some _ (sym c.contains_key.ensures ∙ c.if-not-contains_key.true)) c.in_ok-insert.ensures.entries x
    ∙ ap (λ (name : List ℕ). or_where (value_in c.args.table.now x) (bytes_eq x name) c.args.value) c.as_str-text.ensures
