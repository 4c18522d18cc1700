use Rattle.std.proofs.Common.{arith}
use Rattle.spec_grammar.specs.Symbols.{AHead}
use Rattle.spec_grammar.proofs.GivesLemmas.{deep_fails}
use Rattle.parse_rules.proofs.RuleLaws.{head_at}
use Rattle.parse_rules.proofs.control.read_head.Goals as goal

pub returns-then-nesting-gt-LIMIT : goal.returns-then-nesting-gt-LIMIT
returns-then-nesting-gt-LIMIT c = deep_fails c.too_deep.result c.args.nesting AHead c.args.cursor.tokens.now c.if-nesting-gt-LIMIT.true c.too_deep.ensures

pub returns : goal.returns
returns c = rw (head_at c.args.nesting c.args.cursor.tokens.now (omega arith)) c.read_application.ensures
