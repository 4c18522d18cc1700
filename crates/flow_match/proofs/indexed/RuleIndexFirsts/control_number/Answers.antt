use Rattle.std.proofs.Common.{◌∙◌}
use Rattle.flow_match.proofs.Found.{place_found}
use Rattle.flow_match.proofs.indexed.RuleIndexFirsts.control_number.Goals as goal

pub returns-in-Some : goal.returns-in-Some
returns-in-Some c = c.in-Some.ensures.value ∙ place_found c.args.term.now c.args.self.now.spec.now.spec.control c.as_slice-rules.result.now c.args.self.now.control c.numbers.result.now c.args.self.now.control_indexed c.as_slice-rules.ensures c.numbers.ensures

pub returns-in-None : goal.returns-in-None
returns-in-None c = c.in-None.ensures.value ∙ place_found c.args.term.now c.args.self.now.spec.now.spec.control c.as_slice-rules.result.now c.args.self.now.control c.numbers.result.now c.args.self.now.control_indexed c.as_slice-rules.ensures c.numbers.ensures
