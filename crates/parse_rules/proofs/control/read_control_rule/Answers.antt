use Rattle.std.proofs.Common.{arith, sym}
use Rattle.spec_grammar.specs.Symbols.{AControlRule}
use Rattle.spec_grammar.proofs.GivesLemmas.{deep_fails}
use Rattle.parse_rules.proofs.RuleLaws.{rule_node, rule_chains}
use Rattle.parse_rules.proofs.control.read_control_rule.Goals as goal

pub returns-then-nesting-gt-LIMIT : goal.returns-then-nesting-gt-LIMIT
returns-then-nesting-gt-LIMIT c = deep_fails c.too_deep.result c.args.nesting AControlRule c.args.cursor.tokens.now c.if-nesting-gt-LIMIT.true c.too_deep.ensures

pub returns-then-begins : goal.returns-then-begins
returns-then-begins c = rw (rule_node c.args.nesting c.args.cursor.tokens.now (omega arith) (sym c.if-begins.ensures)) c.read_node_rule.ensures

pub returns : goal.returns
returns c = rw (rule_chains c.args.nesting c.args.cursor.tokens.now (omega arith) (sym c.if-begins.ensures)) c.read_chains_rule.ensures
