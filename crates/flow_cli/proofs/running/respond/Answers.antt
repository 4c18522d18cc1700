use Rattle.flow_term.proofs.Outcomes.{if_some}
use Rattle.flow_cli.proofs.RunLemmas.{outcome_of_written}
use Rattle.flow_cli.proofs.running.respond.Goals as goal

pub returns-in-Ok-clause-outcome : goal.returns-in-Ok-clause-outcome
returns-in-Ok-clause-outcome g c = λ words asked.
    if_some (g.F.Folder.held c.args.folder.now) c.in-Ok.ensures.told
    (λ files whole. outcome_of_written words files c.args.request.now asked _ _ c.in-Ok.output.bytes.items c.in-Ok.output.end c.write_output.result whole c.write_output.ensures.written)
