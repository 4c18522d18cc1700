use Rattle.std.proofs.Common.{◌∙◌}
use Rattle.flow_term.proofs.Outcomes.{if_ok}
use Rattle.flow_match.proofs.Found.{hit_found}
use Rattle.flow_match.proofs.indexed.RuleIndexFirsts.first_hit.Goals as goal

pub returns : goal.returns
returns c = if_ok c.hit_among.result c.hit_among.ensures (λ hit same.
    same
    ∙ hit_found c.args.property c.args.name.now c.args.boundary c.args.term.now c.args.path.now c.args.self.now.spec.now.spec.rules c.as_slice-rules.result.now c.args.self.now.rules c.numbers-numbers.result.now
    c.args.self.now.rules_indexed c.as_slice-rules.ensures c.numbers-numbers.ensures)
