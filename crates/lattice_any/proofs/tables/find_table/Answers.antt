use Rattle.std.proofs.Common.{sym, ◌∙◌}
use Rattle.std.proofs.lemmas.Bool.{true≢false}
use Rattle.std.proofs.lemmas.Slice.Eq.{bytes_eq-Decides}
use Rattle.lattice_any.proofs.NamedTables.{table_found, table_passed}
use Rattle.lattice_any.proofs.tables.find_table.Goals as goal

pub returns-then-eq : goal.returns-then-eq
returns-then-eq c =
    table_found _ _ c.declared-item.result _ c.loop-declared-test.true c.declared-item.is c.loop-declared.invariant ((bytes_eq-Decides _ _).0 (sym c.eq.ensures ∙ c.if-eq.true))

pub loop-declared-preserved : goal.loop-declared-preserved
loop-declared-preserved c =
    table_passed _ _ c.declared-item.result _ c.loop-declared-test.true c.declared-item.is c.loop-declared.invariant
    (λ same. true≢false (sym ((bytes_eq-Decides _ _).1 same) ∙ sym c.eq.ensures ∙ c.if-eq.false))
