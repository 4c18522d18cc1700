use Rattle.flow_syntax.proofs.Passing.{numeral_utf8}
use Rattle.flow_syntax.proofs.lexer.number_of.Goals as goal

pub unreachable-requires : goal.unreachable-requires
unreachable-requires c = c.in_default.ensures.cases.0 (numeral_utf8 c.args.digits.now c.requires)
