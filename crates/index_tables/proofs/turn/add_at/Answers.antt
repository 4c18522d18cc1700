use Rattle.std.proofs.Common.{◌∙◌, sym}
use Rattle.std.proofs.lemmas.Result.{on_ok_weaker}
use Rattle.index_tables.proofs.TurnLemmas.{gains_nothing, gains_one}
use Rattle.index_tables.proofs.turn.add_at.Goals as goal

pub returns-then-is_before-clause-step : goal.returns-then-is_before-clause-step
returns-then-is_before-clause-step c = gains_nothing c.args.places.now c.args.at c.args.number c.args.table.now.items c.requires.at (sym c.is_before.ensures ∙ c.if-is_before.true)

pub returns-clause-step : goal.returns-clause-step
returns-clause-step c =
    on_ok_weaker c.push_at.result (λ is. gains_one c.args.places.now c.args.at c.args.number c.args.table.now.items c.push_at.new.table.items c.requires.at c.requires.row (sym c.is_before.ensures ∙ c.if-is_before.false) is) c.push_at.ensures
