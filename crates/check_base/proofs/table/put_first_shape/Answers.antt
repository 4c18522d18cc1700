use Rattle.std.proofs.Common.{List, ℕ, ap, sym, ◌∙◌, bytes_eq}
use Rattle.std.specs.Prelude.{◌==◌, ◌&&◌}
use Rattle.check_base.specs.Tables.{or_where, shape_in}
use Rattle.check_base.proofs.TableLemmas.{shape_in-insert, none_from_is_some}
use Rattle.check_base.proofs.table.put_first_shape.Goals as goal

pub returns-in_ok-insert : goal.returns-in_ok-insert
returns-in_ok-insert c = λ x n.
    shape_in-insert c.args.table.now c.insert.new.self _ (c.as_str.result, c.args.count) c.args.number (none_from_is_some _ (sym c.contains_key.ensures ∙ c.if-not-contains_key.true)) c.in_ok-insert.ensures.entries x n
    ∙ ap (λ (name : List ℕ). or_where (shape_in c.args.table.now x n) (bytes_eq x name && (n == c.args.count)) c.args.number) c.as_str.ensures
