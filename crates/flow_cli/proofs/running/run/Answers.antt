use Rattle.std.proofs.Common.{refl, sym, ◌∙◌}
use Rattle.flow_term.proofs.Outcomes.{if_some}
use Rattle.flow_cli.proofs.RunLemmas.{completed, nothing_to_complete, nothing_written, where_told}
use Rattle.flow_cli.proofs.running.run.Goals as goal

pub returns-in-Ok-Some-clause-outcome : goal.returns-in-Ok-Some-clause-outcome
returns-in-Ok-Some-clause-outcome g c = c.respond.ensures.outcome c.args.words.now (sym c.in-Ok-Some.ensures ∙ c.in-Ok-Some.field-0-is)

pub returns-in-Ok-Some-clause-complete : goal.returns-in-Ok-Some-clause-complete
returns-in-Ok-Some-clause-complete g c = λ no_read no_write.
    if_some (g.F.Folder.held c.args.folder.now) (c.respond.ensures.outcome c.args.words.now (sym c.in-Ok-Some.ensures ∙ c.in-Ok-Some.field-0-is)) (λ files outcome.
    completed c.args.words.now files _ _ c.respond.result outcome (λ e. no_read (c.respond.ensures.read_fault e)) (λ e. no_write (c.respond.ensures.write_fault e)) c.respond.ensures.asked)

pub returns-in-Ok-None-clause-outcome : goal.returns-in-Ok-None-clause-outcome
returns-in-Ok-None-clause-outcome g c = where_told (g.F.Folder.held c.args.folder.now) (λ files. nothing_written c.args.words.now files _ _ _ tt refl)

pub returns-in-Ok-None-clause-complete : goal.returns-in-Ok-None-clause-complete
returns-in-Ok-None-clause-complete g c = λ no_read no_write.
    where_told (g.F.Folder.held c.args.folder.now) (λ files. nothing_to_complete c.args.words.now files _ (sym c.in-Ok-None.ensures ∙ c.in-Ok-None.field-0-is))

pub returns-in-Err-clause-outcome : goal.returns-in-Err-clause-outcome
returns-in-Err-clause-outcome g c = where_told (g.F.Folder.held c.args.folder.now) (λ files. nothing_written c.args.words.now files _ _ _ tt refl)
