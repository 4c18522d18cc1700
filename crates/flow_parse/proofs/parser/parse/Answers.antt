use Rattle.std.proofs.Common.{sym, ap, subst, ◌∙◌}
use Rattle.flow_parse.proofs.FaultLaws.{read_only, read_first, told_only, told_fault, told_first}
use Rattle.flow_parse.proofs.parser.parse.Goals as goal
use Rattle.spec_wellformed.proofs.WholeTexts.{texts_well_formed}
use Rattle.spec_grammar.proofs.Wholes.{all_found}
use Rattle.spec_grammar.specs.Reading.{reads_all}
use Rattle.spec_grammar.specs.Gives.{Fails}

pub returns-in-Ok-clause-found : goal.returns-in-Ok-clause-found
returns-in-Ok-clause-found c = all_found c.args.tokens.now c.in-Ok.spec (ap reads_all (sym c.as_slice-2.ensures) ∙ c.in-Ok.ensures)

pub returns-in-Ok-clause-only : goal.returns-in-Ok-clause-only
returns-in-Ok-clause-only c = read_only c.args.tokens.now c.in-Ok.spec (ap reads_all (sym c.as_slice-2.ensures) ∙ c.in-Ok.ensures)

pub returns-in-Ok-clause-first : goal.returns-in-Ok-clause-first
returns-in-Ok-clause-first c = read_first c.args.tokens.now c.in-Ok.spec (ap reads_all (sym c.as_slice-2.ensures) ∙ c.in-Ok.ensures)

pub returns-in-Ok-clause-well_formed : goal.returns-in-Ok-clause-well_formed
returns-in-Ok-clause-well_formed c = λ rising. (texts_well_formed c.args.tokens.now c.in-Ok.spec (all_found c.args.tokens.now c.in-Ok.spec (ap reads_all (sym c.as_slice-2.ensures) ∙ c.in-Ok.ensures)) rising).0

pub returns-in-Ok-clause-identifiers : goal.returns-in-Ok-clause-identifiers
returns-in-Ok-clause-identifiers c = λ rising. (texts_well_formed c.args.tokens.now c.in-Ok.spec (all_found c.args.tokens.now c.in-Ok.spec (ap reads_all (sym c.as_slice-2.ensures) ∙ c.in-Ok.ensures)) rising).1

pub returns-clause-only : goal.returns-clause-only
returns-clause-only c = told_only c.told.result c.in-Err.refusal c.args.tokens.now c.told.ensures (subst (λ ts. Fails c.in-Err.refusal (reads_all ts)) c.as_slice-2.ensures c.in-Err.ensures)

pub returns-clause-fault : goal.returns-clause-fault
returns-clause-fault c = told_fault c.told.result c.in-Err.refusal c.args.tokens.now c.told.ensures (subst (λ ts. Fails c.in-Err.refusal (reads_all ts)) c.as_slice-2.ensures c.in-Err.ensures)

pub returns-clause-first : goal.returns-clause-first
returns-clause-first c = told_first c.told.result c.in-Err.refusal c.args.tokens.now c.told.ensures (subst (λ ts. Fails c.in-Err.refusal (reads_all ts)) c.as_slice-2.ensures c.in-Err.ensures)
